-- From what stands at the front of the bytes behind a place to what a call answers about the place.
use Rattle.std.proofs.Common.{◌≡◌, ℕ, ◌+◌, ◌-◌, ◌<◌, ◌≤◌, List, ◌++◌, length, drop, Ok, Err, refl, sym, ap, subst, ◌∙◌, arith, length-append, length-drop}
use Rattle.std.proofs.lemmas.List.{drop-drop, drop_at}
use Rattle.state_codec.specs.Reading.{Reading}
use Rattle.state_codec.specs.declared.CodecFault.{CodecFault}
use Rattle.state_codec.specs.declared.cursor.Fault.{Fault}
use Rattle.state_codec.specs.declared.cursor.Fault.TheVariants.{Malformed, Memory}
use Rattle.state_codec.specs.Gives.{FailsAs, IsTold}
use Rattle.state_codec.specs.DeadEnds.{IsUnit, IsDeadEnd}
use Rattle.state_codec.specs.Reads.{StandsAt, FailsAt, Reads}
use Rattle.state_codec.proofs.Numbers.{IsBytes, bytes_after, Takes, err_or_ok, ok_is}
use Rattle.state_codec.proofs.Fair.{Fair, Blame}

-- what is read is spelled, and what is spelled is read
pub record IsReader {Y : Type 0} (spelling : Y → List ℕ) (Keeps : Y → Type 0) (reading : List ℕ → Reading Y) : Type 0 where
  pub takes : (bytes : List ℕ) (x : Y × List ℕ) → IsBytes bytes → reading bytes ≡ Ok x → Takes bytes (spelling x.0) x.1 × Keeps x.0
  pub again : (value : Y) (rest : List ℕ) → Keeps value → reading (spelling value ++ rest) ≡ Ok (value, rest)
  pub some : (value : Y) → 0 < length (spelling value)

-- how long the rest is
pub rest_length : (bytes spelled rest : List ℕ) (at : ℕ) → drop at bytes ≡ spelled ++ rest → 0 < length spelled → at + length spelled + length rest ≡ length bytes
rest_length bytes spelled rest at e some = omega (arith, length-drop at bytes, length-append spelled rest, ap (λ (l : List ℕ). length l) e)

pub reads_ok : {Y : Type 0} (spelling : Y → List ℕ) (Keeps : Y → Type 0) (reading : List ℕ → Reading Y) → IsReader spelling Keeps reading → (bytes : List ℕ) (at : ℕ) (value : Y) (rest : List ℕ)
    → IsBytes bytes → reading (drop at bytes) ≡ Ok (value, rest) → StandsAt spelling Keeps bytes at value (length bytes - length rest) × (length rest ≤ length bytes)
reads_ok spelling Keeps reading reader bytes at value rest fits e =
    let t = reader.takes (drop at bytes) (value, rest) (bytes_after at bytes fits) e in
    let sizes = rest_length bytes (spelling value) rest at t.0.parts (reader.some value) in
    let next : length bytes - length rest ≡ at + length (spelling value) = omega (arith, sizes) in
    let behind : drop (length bytes - length rest) bytes ≡ rest =
    ap (λ (n : ℕ). drop n bytes) next ∙ sym (drop-drop (length (spelling value)) at bytes) ∙ ap (drop (length (spelling value))) t.0.parts
    ∙ drop_at (spelling value) rest (length (spelling value)) refl in (
      record {
        lawful = t.1;
        spelled = t.0.parts ∙ ap (λ (l : List ℕ). spelling value ++ l) (sym behind);
        next_is = next;
        within = omega (arith, sizes);
      },
      omega (arith, sizes),
    )

pub reads_err : {Y : Type 0} (spelling : Y → List ℕ) (Keeps : Y → Type 0) (reading : List ℕ → Reading Y) → IsReader spelling Keeps reading → Fair IsUnit reading → (bytes : List ℕ) (at left fault : ℕ)
    → IsBytes bytes → reading (drop at bytes) ≡ Err left → fault ≡ length bytes - left → FailsAt spelling Keeps reading bytes at fault
reads_err {Y = Y} spelling Keeps reading reader fair bytes at left fault fits e is = record {
  none = λ value rest keeps spelled. err_or_ok (reading (drop at bytes)) left (value, rest) e (ap reading spelled ∙ reader.again value rest keeps);
  place = (left, e, is);
  stops = λ inside. ends inside (fair.blames (drop at bytes) left (bytes_after at bytes fits) e (omega (arith, is, inside)));
}
  where
    ends : fault < length bytes → Blame IsUnit reading (drop at bytes) left → IsDeadEnd spelling Keeps bytes at fault
    ends inside b = record {
      before = b.before;
      unit = b.unit;
      after = b.after;
      parts = b.parts;
      place = omega (arith, is, inside, b.left_is, length-drop at bytes, ap (λ (l : List ℕ). length l) b.parts, length-append b.before (b.unit ++ b.after));
      whole = b.whole;
      none = λ value more rest keeps same. b.stops more (value, rest) (ap reading same ∙ reader.again value rest keeps);
    }

-- the same, as a fault is told
pub reads_told : {X Y : Type 0} (view : X → Y) (spelling : Y → List ℕ) (Keeps : Y → Type 0) (reading : List ℕ → Reading Y) → IsReader spelling Keeps reading → Fair IsUnit reading → (bytes : List ℕ) (at : ℕ)
    (fault : Fault) (told : CodecFault) → IsBytes bytes → FailsAs fault (reading (drop at bytes)) → IsTold (length bytes) fault told → Reads view spelling Keeps reading bytes at (Err told)
reads_told view spelling Keeps reading reader fair bytes at (Malformed left) told fits fails is =
    subst (λ (t : CodecFault). Reads view spelling Keeps reading bytes at (Err t)) (sym is)
    (reads_err spelling Keeps reading reader fair bytes at left (length bytes - left) fits fails refl)
reads_told view spelling Keeps reading reader fair bytes at Memory told fits fails is =
    subst (λ (t : CodecFault). Reads view spelling Keeps reading bytes at (Err t)) (sym is) tt

-- bytes that begin with a spelling tell the value and what follows
pub told_apart : {Y : Type 0} (spelling : Y → List ℕ) (Keeps : Y → Type 0) (reading : List ℕ → Reading Y) → IsReader spelling Keeps reading
    → (one other : Y) (x y : List ℕ) → Keeps one → Keeps other → spelling one ++ x ≡ spelling other ++ y → (one ≡ other) × (x ≡ y)
told_apart {Y = Y} spelling Keeps reading reader one other x y first second e =
    let same = ok_is (one, x) (other, y) (sym (reader.again one x first) ∙ ap reading e ∙ reader.again other y second) in
    (ap (λ (p : Y × List ℕ). p.0) same, ap (λ (p : Y × List ℕ). p.1) same)
