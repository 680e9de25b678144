-- Lists that are read one after the other.
use Rattle.std.proofs.Common.{◌≡◌, ℕ, suc, List, [], ◌∷◌, ◌++◌, Ok, Err, refl, sym, ap, append_assoc}
use Rattle.state_codec.specs.declared.cursor.Fault.{Fault}
use Rattle.state_codec.specs.declared.cursor.Fault.TheVariants.{Malformed, Memory}
use Rattle.state_codec.specs.Gives.{FailsAs}
use Rattle.state_codec.specs.Reading.{Reading, ◌>>=◌}
use Rattle.state_codec.proofs.Fronts.{with_front}
use Rattle.checkpoint_store.specs.Reading.{list_at}

joined : {Y : Type 0} (front : List Y) (y : Y) (r : Reading (List Y)) → with_front front (r >>= λ ys. Ok (y ∷ ys.0, ys.1)) ≡ with_front (front ++ y ∷ []) r
joined {Y = Y} front y (Ok ys) = ap (λ (l : List Y). Ok (l, ys.1)) (sym (append_assoc front (y ∷ []) ys.0))
joined front y (Err left) = refl

pub list_step : {S Y : Type 0} (read : S → ℕ → List ℕ → Reading Y) (next : S → Y → S) (known : S) (n : ℕ) (front : List Y) (bytes after : List ℕ) (y : Y) → read known n bytes ≡ Ok (y, after)
    → with_front front (list_at read next known (suc n) bytes) ≡ with_front (front ++ y ∷ []) (list_at read next (next known y) n after)
list_step read next known n front bytes after y e = rw e (joined front y (list_at read next (next known y) n after))

pub list_fail : {S Y : Type 0} (read : S → ℕ → List ℕ → Reading Y) (next : S → Y → S) (known : S) (n : ℕ) (front : List Y) (bytes : List ℕ) (fault : Fault) → FailsAs fault (read known n bytes)
    → FailsAs fault (with_front front (list_at read next known (suc n) bytes))
list_fail read next known n front bytes (Malformed left) e = rw e refl
list_fail read next known n front bytes Memory e = tt
