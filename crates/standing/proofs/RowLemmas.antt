-- What a row has taken, while its file grows and pieces of it are fed.
use Rattle.std.proofs.Common.{[], ◌∷◌, ◌≡◌, ℕ, ◌+◌, ◌-◌, List, ◌++◌, length, drop, IsTrue, sym, ap, subst, ◌∙◌, inl, inr, arith, length-append, length-drop}
use Rattle.std.proofs.lemmas.List.{drop-drop, drop-append-le}
use Rattle.outside.specs.World.{History, bytes}
use Rattle.standing.specs.AreRules.{AreRules}
use Rattle.file_tracker.specs.declared.ends.End.{End}
use Rattle.standing.specs.Closed.{Made, AreClosed}
use Rattle.standing.specs.Eras.{Eras, AreEras, last_era}
use Rattle.standing.specs.Look.{fed}
use Rattle.standing.specs.Marks.{Mark}
use Rattle.standing.specs.Moments.{IsLater}
use Rattle.standing.specs.Owner.{IsOwner, MayBegin}
use Rattle.standing.specs.Part.{Part, HasTaken, part_output, first_point, last_part}
use Rattle.standing.specs.Rows.{Row}
use Rattle.standing.specs.Rules.{Rules}
use Rattle.standing.specs.Stands.{RowStands}
use Rattle.standing.specs.Tokens.{tokens_of, used, UpTo}
use Rattle.standing.proofs.EraLemmas.{era_laws, last_laws}
use Rattle.standing.proofs.MomentLemmas.{look_lasts, bytes_grow}
use Rattle.standing.proofs.TokenLemmas.{up_to_lasts, up_to_piece}

pub owner_lasts : (eras : Eras) (old new : History) (row : Row) (file : ℕ) → IsLater old new → IsOwner eras old row file → IsOwner eras new row file
owner_lasts eras old new row file later owner = record {
  seen_at = owner.seen_at;
  seen = look_lasts old new file owner.seen_at later owner.seen;
  saw = owner.saw;
  not_empty = owner.not_empty;
  named_at = owner.named_at;
  named = look_lasts old new file owner.named_at later owner.named;
  under = owner.under;
  rules = owner.rules;
  admitted = owner.admitted;
  included = owner.included;
}

pub begin_lasts : (rules : Rules) (old new : History) (file start : ℕ) → IsLater old new → MayBegin rules old file start → MayBegin rules new file start
begin_lasts rules old new file start later (inl none) = inl none
begin_lasts rules old new file start later (inr at) = inr (record {
  from_end = at.from_end;
  moment = at.moment;
  seen = look_lasts old new file at.moment later at.seen;
  length_then = at.length_then;
})

module _ (rules : Rules) (laws : AreRules rules) where
  pub taken_lasts : (part : Part) (content more : List ℕ) (tokens : List (List ℕ)) (row : Row) → HasTaken rules part content tokens row → HasTaken rules part (content ++ more) tokens row
  taken_lasts part content more tokens row taken = record {
    begins = taken.begins;
    within = omega (arith, taken.within, length-append content more);
    bound =
        let same : drop part.start (content ++ more) ≡ drop part.start content ++ more = drop-append-le part.start content more (omega (arith, taken.begins, taken.within)) in
        let P : List ℕ → Type 0 = λ b. UpTo rules b (row.offset - part.start) tokens in
        subst P (sym same) (up_to_lasts rules laws.tokens (drop part.start content) more (row.offset - part.start) tokens taken.bound);
    records = taken.records;
    lines = taken.lines;
    state = taken.state;
  }

  pub output_goes_on : (part : Part) (content : List ℕ) (tokens more : List (List ℕ)) (row : Row) → IsTrue (rules.is_state part.state) → HasTaken rules part content tokens row
      → part_output rules part row.path (tokens ++ more) ≡ part_output rules part row.path tokens ++ rules.made row.path row.records row.state more
  output_goes_on part content tokens more row good taken =
      laws.operators.made_in_parts row.path part.records part.state tokens more good
      ∙ ap (λ n. part_output rules part row.path tokens ++ rules.made row.path n (rules.state_after row.path part.records part.state tokens) more) (sym taken.records)
      ∙ ap (λ (s : List ℕ). part_output rules part row.path tokens ++ rules.made row.path row.records s more) (sym taken.state)

  pub state_goes_on : (part : Part) (content : List ℕ) (tokens more : List (List ℕ)) (row : Row) → IsTrue (rules.is_state part.state) → HasTaken rules part content tokens row
      → rules.state_after row.path part.records part.state (tokens ++ more) ≡ rules.state_after row.path row.records row.state more
  state_goes_on part content tokens more row good taken =
      laws.operators.state_in_parts row.path part.records part.state tokens more good
      ∙ ap (λ n. rules.state_after row.path n (rules.state_after row.path part.records part.state tokens) more) (sym taken.records)
      ∙ ap (λ (s : List ℕ). rules.state_after row.path row.records s more) (sym taken.state)

  pub taken_fed : (part : Part) (content piece behind : List ℕ) (tokens : List (List ℕ)) (row : Row) → IsTrue (rules.is_state part.state)
      → drop row.offset content ≡ piece ++ behind → HasTaken rules part content tokens row → HasTaken rules part content (tokens ++ tokens_of rules piece) (fed rules piece row)
  taken_fed part content piece behind tokens row good stands taken =
      let there : drop (row.offset - part.start) (drop part.start content) ≡ piece ++ behind =
      drop-drop (row.offset - part.start) part.start content ∙ ap (λ n. drop n content) (omega (arith, taken.begins)) ∙ stands in
      let up = up_to_piece rules laws.tokens (drop part.start content) piece behind (row.offset - part.start) tokens taken.bound there in
      let far : row.offset - part.start + used rules piece ≡ row.offset + used rules piece - part.start = omega (arith, taken.begins) in
      let goes = output_goes_on part content tokens (tokens_of rules piece) row good taken in
      record {
        begins = omega (arith, taken.begins);
        within = omega (arith, taken.within, laws.tokens.within piece, ap length stands, length-append piece behind, length-drop row.offset content);
        bound = let P : ℕ → Type 0 = λ n. UpTo rules (drop part.start content) n (tokens ++ tokens_of rules piece) in subst P far up;
        records = omega (arith, taken.records, length-append tokens (tokens_of rules piece));
        lines = omega (arith, taken.lines, ap length goes, length-append (part_output rules part row.path tokens) (rules.made row.path row.records row.state (tokens_of rules piece)));
        state = sym (state_goes_on part content tokens (tokens_of rules piece) row good taken);
      }

-- ---- parts

closed_lasts : (eras : Eras) → AreEras eras → (content more path : List ℕ) (era : ℕ) (from : End) (ends : List End) (made : List Made)
    → AreClosed eras content path era from ends made → AreClosed eras (content ++ more) path era from ends made
closed_lasts eras laws content more path era from [] made closed = closed
closed_lasts eras laws content more path era from (end ∷ ends) made closed =
    let part = closed.0 in
    let same : drop from.offset (content ++ more) ≡ drop from.offset content ++ more = drop-append-le from.offset content more (omega (arith, part.begins, part.within)) in
    let P : List ℕ → Type 0 = λ b. UpTo part.rules b (end.offset - from.offset) part.tokens in (
      record {
        rules = part.rules;
        there = part.there;
        begins = part.begins;
        within = omega (arith, part.within, length-append content more);
        tokens = part.tokens;
        bound = subst P (sym same) (up_to_lasts part.rules (era_laws eras laws era part.rules part.there).tokens (drop from.offset content) more (end.offset - from.offset) part.tokens part.bound);
        records = part.records;
        lines = part.lines;
      },
      closed.1,
      closed.2,
      closed_lasts eras laws content more path (era + 1) end ends closed.1 closed.3,
    )

pub row_lasts : (eras : Eras) → AreEras eras → (old new : History) (row : Row) (lines : List Mark) → IsLater old new → RowStands eras old row lines → RowStands eras new row lines
row_lasts eras laws old new row lines later stands =
    let grown = bytes_grow old new stands.file later in
    let P : List ℕ → Type 0 = λ b. HasTaken (last_era eras) (last_part (last_era eras) row) b stands.tokens row in
    let Q : List ℕ → Type 0 = λ b. AreClosed eras b row.path row.born (first_point row) row.ends stands.earlier in
    record {
      file = stands.file;
      owner = owner_lasts eras old new row stands.file later stands.owner;
      begins = begin_lasts eras.first old new stands.file row.start later stands.begins;
      earlier = stands.earlier;
      closed = subst Q (sym grown.1) (closed_lasts eras laws (bytes old stands.file) grown.0 row.path row.born (first_point row) row.ends stands.earlier stands.closed);
      parts = stands.parts;
      tokens = stands.tokens;
      taken = subst P (sym grown.1) (taken_lasts (last_era eras) (last_laws eras laws) (last_part (last_era eras) row) (bytes old stands.file) grown.0 stands.tokens row stands.taken);
      all_lines = stands.all_lines;
      times = stands.times;
    }
