-- Histories that go on.
use Rattle.std.proofs.Common.{◌≡◌, ℕ, List, [], ◌∷◌, ◌++◌, length, take, refl, sym, ap, ◌∙◌, append_assoc, arith, ◌⊎◌, inl, inr}
use Rattle.std.proofs.lemmas.Bool.{cases_lt}
use Rattle.outside.specs.World.{History, bytes, look}
use Rattle.outside.proofs.Moving.{grows_by}
use Rattle.standing.specs.Apart.{Apart}
use Rattle.standing.specs.Moments.{IsLater, LookAt}
use Rattle.standing.specs.Prefixes.{IsPrefix}
use Rattle.standing.proofs.PrefixLemmas.{front_of_both, prefix-take}

pub later_none : (history : History) → IsLater history history
later_none history = record { events = []; goes_on = refl }

pub later_then : (old mid new : History) → IsLater old mid → IsLater mid new → IsLater old new
later_then old mid new a b = record {
  events = b.events ++ a.events;
  goes_on = b.goes_on ∙ ap (λ h. b.events ++ h) a.goes_on ∙ sym (append_assoc b.events a.events old);
}

pub look_lasts : (old new : History) (file : ℕ) (moment : History) → IsLater old new → LookAt old file moment → LookAt new file moment
look_lasts old new file moment later at = record {
  later = later.events ++ at.later;
  split = later.goes_on ∙ ap (λ h. later.events ++ h) at.split ∙ sym (append_assoc later.events at.later (look file ∷ moment));
}

pub past_look : (history : History) (file : ℕ) (moment : History) → LookAt history file moment → IsLater (look file ∷ moment) history
past_look history file moment at = record { events = at.later; goes_on = at.split }

pub at_look : (file : ℕ) (moment : History) → IsLater moment (look file ∷ moment)
at_look file moment = record { events = look file ∷ []; goes_on = refl }

pub looked_now : (file : ℕ) (moment : History) → LookAt (look file ∷ moment) file moment
looked_now file moment = record { later = []; split = refl }

pub look_later : (history : History) (file : ℕ) (moment : History) → LookAt history file moment → IsLater moment history
look_later history file moment at = later_then moment (look file ∷ moment) history (at_look file moment) (past_look history file moment at)

-- a file's bytes only grow
pub bytes_grow : (old new : History) (file : ℕ) → IsLater old new → (more : List ℕ) × (bytes new file ≡ bytes old file ++ more)
bytes_grow old new file later =
    let grown = grows_by later.events old file in
    (grown.0, ap (λ h. bytes h file) later.goes_on ∙ grown.1)

-- what was seen first of a file at two looks: the one begins the other
pub fronts_of_one : (n : ℕ) (history first second : History) (file : ℕ) → IsLater first history → IsLater second history
    → IsPrefix (take n (bytes first file)) (take n (bytes second file)) ⊎ IsPrefix (take n (bytes second file)) (take n (bytes first file))
fronts_of_one n history first second file a b =
    let one = bytes_grow first history file a in
    let other = bytes_grow second history file b in
    elim (cases_lt (length (bytes first file)) (length (bytes second file))) [
      | inl short ↦ inl (prefix-take n (bytes first file) (bytes second file) (front_of_both (bytes first file) (bytes second file) one.0 other.0 (sym one.1 ∙ other.1) (omega (arith, short))))
      | inr long ↦ inr (prefix-take n (bytes second file) (bytes first file) (front_of_both (bytes second file) (bytes first file) other.0 one.0 (sym other.1 ∙ one.1) long))
    ]

pub apart_before : (n : ℕ) (old new : History) → IsLater old new → Apart n new → Apart n old
apart_before n old new later apart = λ file other moment earlier at before differs filled. apart file other moment earlier (look_lasts old new file moment later at) before differs filled
