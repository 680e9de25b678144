-- Members that are put in, as values in memory have them.
use Rattle.std.proofs.Common.{◌≡◌, ℕ, List, [], ◌∷◌, ◌++◌, ◌∙◌, ap, refl}
use Rattle.std.specs.BTreeMap.{insert_entry}
use Rattle.std.specs.Cmp.Lexicographic.{slice_cmp}
use Rattle.std.specs.Ordering.{nat_cmp, match_ordering}
use Rattle.std.specs.declared.cmp.Ordering.{Ordering}
use Rattle.std.specs.declared.cmp.Ordering.TheVariants.{Less, Equal, Greater}
use Rattle.entry_model.specs.declared.value.Value.{Value}
use Rattle.entry_model.specs.Datum.{Datum, datum}
use Rattle.entry_model.specs.Seen.{seen}
use Rattle.syslog_parser.specs.Told.{Member, put, put_all}

seen-insert : (entries : List (List ℕ × Value)) (name : List ℕ) (one : Value) → seen (insert_entry (slice_cmp nat_cmp) entries name one) ≡ put (seen entries) (name, datum one)
seen-insert [] name one = refl
seen-insert (e ∷ es) name one = by (slice_cmp nat_cmp name e.0) (seen-insert es name one)
  where
    by : (o : Ordering) → seen (insert_entry (slice_cmp nat_cmp) es name one) ≡ put (seen es) (name, datum one)
        → seen (match_ordering o ((name, one) ∷ e ∷ es) ((e.0, one) ∷ es) (e ∷ insert_entry (slice_cmp nat_cmp) es name one))
        ≡ match_ordering o ((name, datum one) ∷ (e.0, datum e.1) ∷ seen es) ((e.0, datum one) ∷ seen es) ((e.0, datum e.1) ∷ put (seen es) (name, datum one))
    by Less rec = refl
    by Equal rec = refl
    by Greater rec = ap (λ (l : List Member). (e.0, datum e.1) ∷ l) rec

-- a value put in under a name
pub seen_put : (new old : List (List ℕ × Value)) (key name : List ℕ) (one : Value) (is : Datum) → new ≡ insert_entry (slice_cmp nat_cmp) old key one
    → key ≡ name → datum one ≡ is → seen new ≡ put (seen old) (name, is)
seen_put new old key name one is e k d =
    ap seen e ∙ seen-insert old key one
    ∙ ap (λ (n : List ℕ). put (seen old) (n, datum one)) k
    ∙ ap (λ (x : Datum). put (seen old) (name, x)) d

pub put_all-append : (members front back : List Member) → put_all members (front ++ back) ≡ put_all (put_all members front) back
put_all-append members [] back = refl
put_all-append members (next ∷ front) back = put_all-append (put members next) front back

pub put_all-one : (members : List Member) (one : Member) → put_all members (one ∷ []) ≡ put members one
put_all-one members one = refl
