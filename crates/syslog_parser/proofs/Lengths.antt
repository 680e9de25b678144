-- What stands behind a part is shorter.
use Rattle.std.proofs.Common.{◌≡◌, ℕ, suc, ◌+◌, ◌<◌, List, ◌∷◌, ◌++◌, ap, refl, length, length-append, arith}
use Rattle.syslog_parser.specs.Structured.{IsContent, a_quote, a_plain, an_escape, a_backslash, Param, IsParam, a_param, AreParams, no_param, next_param, Element, IsElement, an_element}

one_longer : (byte : ℕ) (l : List ℕ) → length (byte ∷ l) ≡ suc (length l)
one_longer byte l = refl

pub content_less : {text value rest : List ℕ} → IsContent text value rest → length rest < length text
content_less (a_quote {rest}) = let l = one_longer 34 rest in omega arith
content_less (a_plain {byte} {front} e d) = let l = one_longer byte front in let r = content_less d in omega arith
content_less (an_escape {byte} {front} e d) = let l = one_longer 92 (byte ∷ front) in let m = one_longer byte front in let r = content_less d in omega arith
content_less (a_backslash {byte} {front} e d) = let l = one_longer 92 (byte ∷ front) in let r = content_less d in omega arith

pub param_less : {text rest : List ℕ} {param : Param} → IsParam text param rest → length rest < length text
param_less (a_param {name} {front} n d) =
    let l : length (name ++ 61 ∷ 34 ∷ front) ≡ length name + length (61 ∷ 34 ∷ front) = length-append name (61 ∷ 34 ∷ front) in
    let m = one_longer 61 (34 ∷ front) in
    let k = one_longer 34 front in
    let r = content_less d in
    omega arith

params_less : {text rest : List ℕ} {params : List Param} → AreParams text params rest → length rest < length text
params_less (no_param {rest}) = let l = one_longer 93 rest in omega arith
params_less (next_param {front} p d) = let l = one_longer 32 front in let q = param_less p in let r = params_less d in omega arith

pub element_less : {text rest : List ℕ} {element : Element} → IsElement text element rest → length rest < length text
element_less (an_element {id} {behind} n d) =
    let l = one_longer 91 (id ++ behind) in
    let m : length (id ++ behind) ≡ length id + length behind = length-append id behind in
    let r = params_less d in
    omega arith

-- behind one more byte
pub less_behind : (text front rest : List ℕ) (byte : ℕ) → text ≡ byte ∷ front → length rest < length front → length rest < length text
less_behind text front rest byte e l = let m : length text ≡ suc (length front) = ap length e in omega arith
