-- Tokens up to a bound.
use Rattle.std.proofs.Common.{◌≡◌, ℕ, ◌+◌, ◌≤◌, List, [], ◌++◌, drop, refl, sym, ap, subst, ◌∙◌, append_assoc, arith}
use Rattle.std.proofs.lemmas.List.{append-nil, map-append}
use Rattle.std.proofs.lemmas.List.Sums.{sum_by-append}
use Rattle.line_splitter.specs.Cuts.{Cut}
use Rattle.standing.specs.AreRules.{AreTokenRules}
use Rattle.standing.specs.Rules.{Rules}
use Rattle.standing.specs.Tokens.{used_by, texts, tokens_of, used, UpTo}

pub used-append : (cs ds : List Cut) → used_by (cs ++ ds) ≡ used_by cs + used_by ds
used-append cs ds = sum_by-append (λ (c : Cut). c.used) cs ds

pub texts-append : (cs ds : List Cut) → texts (cs ++ ds) ≡ texts cs ++ texts ds
texts-append cs ds = map-append (λ (c : Cut). c.text) cs ds

module _ (rules : Rules) (laws : AreTokenRules rules) where
  pub up_to_none : (content : List ℕ) → UpTo rules content 0 []
  up_to_none content = record { taken = []; behind = rules.cuts content; split = refl; uses = refl; are = refl }

  pub up_to_all : (content : List ℕ) → UpTo rules content (used rules content) (tokens_of rules content)
  up_to_all content = record { taken = rules.cuts content; behind = []; split = sym (append-nil (rules.cuts content)); uses = refl; are = refl }

  pub up_to_lasts : (content more : List ℕ) (bound : ℕ) (tokens : List (List ℕ)) → UpTo rules content bound tokens → UpTo rules (content ++ more) bound tokens
  up_to_lasts content more bound tokens up =
      let rest = laws.lasting content more in
      record {
        taken = up.taken;
        behind = up.behind ++ rest.0;
        split = rest.1 ∙ ap (λ (cs : List Cut). cs ++ rest.0) up.split ∙ append_assoc up.taken up.behind rest.0;
        uses = up.uses;
        are = up.are;
      }

  pub up_to_joined : (content : List ℕ) (bound next : ℕ) (tokens more : List (List ℕ)) → UpTo rules content bound tokens → UpTo rules (drop bound content) next more → UpTo rules content (bound + next) (tokens ++ more)
  up_to_joined content bound next tokens more up on =
      let here : rules.cuts (drop bound content) ≡ up.behind =
      ap (λ n. rules.cuts (drop n content)) (sym up.uses) ∙ laws.going_on content up.taken up.behind up.split in
      let behind : up.behind ≡ on.taken ++ on.behind = sym here ∙ on.split in
      record {
        taken = up.taken ++ on.taken;
        behind = on.behind;
        split = up.split ∙ ap (λ (cs : List Cut). up.taken ++ cs) behind ∙ sym (append_assoc up.taken on.taken on.behind);
        uses = used-append up.taken on.taken ∙ omega (arith, up.uses, on.uses);
        are = ap (λ (ts : List (List ℕ)). ts ++ more) up.are ∙ ap (λ (ts : List (List ℕ)). texts up.taken ++ ts) on.are ∙ sym (texts-append up.taken on.taken);
      }

  -- the tokens of a piece that stands at the bound follow those up to it
  pub up_to_piece : (content piece behind : List ℕ) (bound : ℕ) (tokens : List (List ℕ)) → UpTo rules content bound tokens → drop bound content ≡ piece ++ behind
      → UpTo rules content (bound + used rules piece) (tokens ++ tokens_of rules piece)
  up_to_piece content piece behind bound tokens up stands =
      up_to_joined content bound (used rules piece) tokens (tokens_of rules piece) up
      (let P : List ℕ → Type 0 = λ b. UpTo rules b (used rules piece) (tokens_of rules piece) in
      subst P (sym stands) (up_to_lasts piece behind (used rules piece) (tokens_of rules piece) (up_to_all piece)))
