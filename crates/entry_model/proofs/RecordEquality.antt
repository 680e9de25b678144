-- Entries are equal where their records are.
use Rattle.std.proofs.Common.{◌≡◌, ℕ, true≢false, Option, None, Some, refl, sym, ap, ◌∙◌}
use Rattle.std.specs.Bool.{Decides}
use Rattle.std.specs.Cmp.{unsigned_Decides}
use Rattle.std.specs.Cmp.Lexicographic.{bytes_decides}
use Rattle.std.specs.Option.{option_eq, is_some, unwrap_or}
use Rattle.std.specs.Prelude.{nat_eq}
use Rattle.std.proofs.lemmas.Bool.Decides.{Decides-and, Decides-like}
use Rattle.entry_model.specs.contracts.entry.EntryPartialEq.TheImpl.{ghosts}
use Rattle.entry_model.specs.declared.entry.Entry.{Entry}
use Rattle.entry_model.specs.Datum.{datum, fields}
use Rattle.entry_model.specs.LogRecord.{LogRecord, log_record, members_in}
use Rattle.entry_model.proofs.Equality.{eq_Decides}
use Rattle.entry_model.proofs.Nesting.{is_fields}

time_Decides : (s t : Option ℕ) → Decides (option_eq nat_eq s t) (s ≡ t)
time_Decides None None = (λ h. refl, λ e. refl)
time_Decides None (Some t) = (λ h. absurd (true≢false (sym h)), λ e. ap is_some e)
time_Decides (Some s) None = (λ h. absurd (true≢false (sym h)), λ e. sym (ap is_some e))
time_Decides (Some s) (Some t) = (λ h. ap (λ n. Some n) ((unsigned_Decides s t).0 h), λ e. (unsigned_Decides s t).1 (ap (λ o. unwrap_or o 0) e))

pub entry_Decides : (a b : Entry) → Decides (ghosts.eq a b) (log_record a ≡ log_record b)
entry_Decides a b =
    Decides-like (ghosts.eq a b)
    (λ p. λ i. record {
      body = p.0 i;
      attributes = members_in (p.1.0 i);
      resource = members_in (p.1.1.0 i);
      timestamp = p.1.1.1.0 i;
      severity = p.1.1.1.1.0 i;
      severity_text = p.1.1.1.1.1 i;
    })
    (λ (e : log_record a ≡ log_record b). (
      ap (λ (r : LogRecord). r.body) e,
      (
        is_fields (datum a.attributes) a.attributes_are_a_map ∙ ap (λ (r : LogRecord). fields r.attributes) e ∙ sym (is_fields (datum b.attributes) b.attributes_are_a_map),
        (
          is_fields (datum a.resource) a.resource_is_a_map ∙ ap (λ (r : LogRecord). fields r.resource) e ∙ sym (is_fields (datum b.resource) b.resource_is_a_map),
          (
            ap (λ (r : LogRecord). r.timestamp) e,
            (ap (λ (r : LogRecord). r.severity) e, ap (λ (r : LogRecord). r.severity_text) e),
          ),
        ),
      ),
    ))
    (Decides-and _ _ (eq_Decides a.body b.body)
    (Decides-and _ _ (eq_Decides a.attributes b.attributes)
    (Decides-and _ _ (eq_Decides a.resource b.resource)
    (Decides-and _ _ (time_Decides a.timestamp b.timestamp)
    (Decides-and _ _ (unsigned_Decides a.severity.number b.severity.number)
    (bytes_decides a.severity_text b.severity_text))))))
