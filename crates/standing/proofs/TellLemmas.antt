-- What outputs and bounds tell.
use Rattle.std.proofs.Common.{◌≡◌, ℕ, ◌+◌, ◌-◌, ◌≤◌, List, [], ◌∷◌, ◌++◌, length, take, drop, IsTrue, refl, sym, ap, subst, ◌∙◌, arith, length-append, None}
use Rattle.std.specs.List.{All}
use Rattle.std.proofs.lemmas.List.{take-append-drop}
use Rattle.std.proofs.lemmas.List.Elements.{All-head, All-tail}
use Rattle.std.proofs.lemmas.List.Sums.{sum_by-cons}
use Rattle.entry_model.specs.LogRecord.{LogRecord}
use Rattle.line_splitter.specs.Cuts.{Cut}
use Rattle.outside.specs.World.{History, bytes}
use Rattle.standing.specs.AreRules.{AreRules}
use Rattle.standing.specs.Closed.{entries_in, all_made}
use Rattle.standing.specs.Eras.{Eras, AreEras, last_era}
use Rattle.standing.specs.Marks.{Mark, numbered, untimed}
use Rattle.standing.specs.Part.{first_point, last_point}
use Rattle.standing.specs.Reached.{Reached}
use Rattle.standing.specs.Rows.{Row}
use Rattle.standing.specs.Rules.{Rules, output_text}
use Rattle.standing.specs.Stands.{RowStands}
use Rattle.standing.specs.Tokens.{used_by, texts, tokens_of, used, UpTo}
use Rattle.standing.proofs.EraLemmas.{last_laws}
use Rattle.standing.proofs.MarkLemmas.{numbered-append}
use Rattle.standing.proofs.PartLemmas.{entries_go_on}
use Rattle.standing.proofs.TokenLemmas.{texts-append, up_to_all, up_to_lasts}

module _ (rules : Rules) (laws : AreRules rules) where
  empty_has_none : (mark : Mark) (marks : List Mark) → ◌≡◌ {A = List ℕ} [] (output_text rules (mark ∷ marks)) → ⊥
  empty_has_none mark marks same = omega (arith, ap length same, length-append (rules.line mark) (output_text rules marks), laws.lines.not_empty mark)

  pub text_tells_marks : (marks others : List Mark) → All (λ (mark : Mark). IsTrue (rules.fits mark)) marks → All (λ (mark : Mark). IsTrue (rules.fits mark)) others → output_text rules marks ≡ output_text rules others → marks ≡ others
  text_tells_marks [] [] fit others_fit same = refl
  text_tells_marks [] (mark ∷ others) fit others_fit same = absurd (empty_has_none mark others same)
  text_tells_marks (mark ∷ marks) [] fit others_fit same = absurd (empty_has_none mark marks (sym same))
  text_tells_marks (mark ∷ marks) (other ∷ others) fit others_fit same =
      let told = laws.lines.tells_all mark other (output_text rules marks) (output_text rules others)
      (All-head (λ (m : Mark). IsTrue (rules.fits m)) mark marks fit) (All-head (λ (m : Mark). IsTrue (rules.fits m)) other others others_fit) same in
      let rest : marks ≡ others = text_tells_marks marks others (All-tail (λ (m : Mark). IsTrue (rules.fits m)) mark marks fit) (All-tail (λ (m : Mark). IsTrue (rules.fits m)) other others others_fit) told.1 in
      ap (λ (m : Mark). m ∷ marks) told.0 ∙ ap (λ (ms : List Mark). other ∷ ms) rest

  same_taken : (all taken behind others behind_others : List Cut) → All (λ (c : Cut). 1 ≤ c.used) all → all ≡ taken ++ behind → all ≡ others ++ behind_others → used_by taken ≡ used_by others → taken ≡ others
  same_taken all [] behind [] behind_others each is is_too same = refl
  same_taken all [] behind (c ∷ others) behind_others each is is_too same =
      let uses : 1 ≤ c.used = All-head (λ (d : Cut). 1 ≤ d.used) c (others ++ behind_others) (subst (λ (ds : List Cut). All (λ (d : Cut). 1 ≤ d.used) ds) is_too each) in
      absurd (omega (arith, uses, same, sum_by-cons (λ (d : Cut). d.used) c others))
  same_taken all (c ∷ taken) behind [] behind_others each is is_too same =
      let uses : 1 ≤ c.used = All-head (λ (d : Cut). 1 ≤ d.used) c (taken ++ behind) (subst (λ (ds : List Cut). All (λ (d : Cut). 1 ≤ d.used) ds) is each) in
      absurd (omega (arith, uses, same, sum_by-cons (λ (d : Cut). d.used) c taken))
  same_taken all (c ∷ taken) behind (d ∷ others) behind_others each is is_too same =
      let both : ◌≡◌ {A = List Cut} (c ∷ (taken ++ behind)) (d ∷ (others ++ behind_others)) = sym is ∙ is_too in
      let heads : c ≡ d = cc in
      let tails : taken ++ behind ≡ others ++ behind_others = cc in
      let each_rest = All-tail (λ (e : Cut). 1 ≤ e.used) c (taken ++ behind) (subst (λ (ds : List Cut). All (λ (e : Cut). 1 ≤ e.used) ds) is each) in
      let used_same : used_by taken ≡ used_by others = omega (arith, same, ap (λ (e : Cut). e.used) heads, sum_by-cons (λ (e : Cut). e.used) c taken, sum_by-cons (λ (e : Cut). e.used) d others) in
      ap (λ (e : Cut). e ∷ taken) heads ∙ ap (λ (es : List Cut). d ∷ es) (same_taken (taken ++ behind) taken behind others behind_others each_rest refl tails used_same)

  pub bound_tells_tokens : (content : List ℕ) (bound : ℕ) (tokens others : List (List ℕ)) → UpTo rules content bound tokens → UpTo rules content bound others → tokens ≡ others
  bound_tells_tokens content bound tokens others up also =
      up.are ∙ ap texts (same_taken (rules.cuts content) up.taken up.behind also.taken also.behind (laws.tokens.each_uses content) up.split also.split (up.uses ∙ sym also.uses)) ∙ sym also.are

module _ (eras : Eras) (laws : AreEras eras) where
  abbrev rules_now : Rules
  rules_now = last_era eras

  -- the lines of a row are the first of those of all tokens of its file
  pub lines_begin : (history : History) (row : Row) (lines : List Mark) (stands : RowStands eras history row lines)
      → let point = last_point (first_point row) row.ends in
      (rest : List Mark) × (numbered row.id 1 None (entries_in (all_made eras row stands.earlier (tokens_of (last_era eras) (drop point.offset (bytes history stands.file))))) ≡ untimed lines ++ rest)
  lines_begin history row lines stands =
      let of_rules = last_laws eras laws in
      let point = last_point (first_point row) row.ends in
      let content : List ℕ = drop point.offset (bytes history stands.file) in
      let up = stands.taken.bound in
      let more : List (List ℕ) = texts up.behind in
      let tokens : tokens_of rules_now content ≡ stands.tokens ++ more = ap texts up.split ∙ texts-append up.taken up.behind ∙ ap (λ (ts : List (List ℕ)). ts ++ more) (sym up.are) in
      let goes = of_rules.operators.made_in_parts row.path point.records rules_now.fresh stands.tokens more of_rules.operators.fresh_is_state in
      let last : List LogRecord = rules_now.made row.path (point.records + length stands.tokens) (rules_now.state_after row.path point.records rules_now.fresh stands.tokens) more in
      let here : List LogRecord = entries_in (all_made eras row stands.earlier stands.tokens) in (
        numbered row.id (1 + length here) None last,
        ap (λ (ts : List (List ℕ)). numbered row.id 1 None (entries_in (all_made eras row stands.earlier ts))) tokens
            ∙ ap (numbered row.id 1 None) (entries_go_on eras row stands.earlier stands.tokens more last goes)
            ∙ numbered-append row.id 1 None here last
            ∙ ap (λ (ms : List Mark). ms ++ numbered row.id (1 + length here) None last) (sym stands.all_lines),
      )

  -- those of a row that has reached a place are all that the bytes up to there have
  pub reached_has_all : (history : History) (row : Row) (lines : List Mark) (place : ℕ) (stands : RowStands eras history row lines) → Reached (last_era eras) (bytes history stands.file) row place
      → let point = last_point (first_point row) row.ends in
      untimed lines ≡ numbered row.id 1 None (entries_in (all_made eras row stands.earlier (tokens_of (last_era eras) (take (place - point.offset) (drop point.offset (bytes history stands.file))))))
  reached_has_all history row lines place stands reached =
      let of_rules = last_laws eras laws in
      let point = last_point (first_point row) row.ends in
      let content : List ℕ = drop point.offset (bytes history stands.file) in
      let seen : List ℕ = take (place - point.offset) content in
      let whole_up = up_to_lasts rules_now of_rules.tokens seen (drop (place - point.offset) content) (used rules_now seen) (tokens_of rules_now seen) (up_to_all rules_now of_rules.tokens seen) in
      let P : List ℕ → Type 0 = λ b. UpTo rules_now b (used rules_now seen) (tokens_of rules_now seen) in
      let Q : ℕ → Type 0 = λ n. UpTo rules_now content n (tokens_of rules_now seen) in
      let far : used rules_now seen ≡ row.offset - point.offset = omega (arith, reached) in
      let up = subst Q far (subst P (take-append-drop (place - point.offset) content) whole_up) in
      stands.all_lines ∙ ap (λ (ts : List (List ℕ)). numbered row.id 1 None (entries_in (all_made eras row stands.earlier ts))) (bound_tells_tokens rules_now of_rules content (row.offset - point.offset) stands.tokens (tokens_of rules_now seen) stands.taken.bound up)
