-- Entries of one source, joined so far.
use Rattle.std.specs.Prelude.{ℕ, List, refl}
use Rattle.std.specs.Coded.{Coded, code_by, coded_ℕ, coded_list, coded×}
use Rattle.entry_model.specs.Code.{record_code}
use Rattle.entry_model.specs.LogRecord.{LogRecord}

pub record Group : Type 0 where
  pub source : List ℕ
  -- how many entries were joined
  pub entries : ℕ
  -- the joined text
  pub text : List ℕ
  -- the entry that goes on with the joined text once the group is ended
  pub base : LogRecord

-- ---- what tells them apart in a proof

abbrev pub group_code : Coded Group
group_code = code_by (List ℕ × (ℕ × (List ℕ × LogRecord)))
    (coded× (coded_list coded_ℕ) (coded× coded_ℕ (coded× (coded_list coded_ℕ) record_code)))
    (λ g. (g.source, (g.entries, (g.text, g.base))))
    (λ p. record { source = p.0; entries = p.1.0; text = p.1.1.0; base = p.1.1.1 })
    (λ _. refl)

abbrev pub groups_code : Coded (List Group)
groups_code = coded_list group_code
