-- A row that is fed piece by piece is fed all pieces together.
use Rattle.std.proofs.Common.{◌≡◌, ℕ, ◌+◌, ◌≤◌, suc, Option, List, [], ◌∷◌, ◌++◌, length, drop, All, IsTrue, refl, sym, ap, ◌∙◌, arith, length-append}
use Rattle.std.proofs.lemmas.List.{drop-append-le}
use Rattle.std.proofs.lemmas.List.Sums.{sum_by-cons}
use Rattle.entry_model.specs.LogRecord.{LogRecord}
use Rattle.line_splitter.specs.Cuts.{Cut}
use Rattle.standing.specs.Poll.{Poll}
use Rattle.standing.specs.AreRules.{AreRules}
use Rattle.standing.specs.Look.{fed, lines_of}
use Rattle.standing.specs.Marks.{numbered}
use Rattle.standing.specs.Rows.{Row}
use Rattle.standing.specs.Tokens.{tokens_of, used, used_by, texts}
use Rattle.standing.proofs.MarkLemmas.{numbered-append}
use Rattle.standing.proofs.TokenLemmas.{used-append, texts-append}

-- what no token used, and what came behind it
abbrev pub unused : Poll → List ℕ → List ℕ → List ℕ
unused poll read more = drop (used poll.rules read) read ++ more

-- a row is told by its numbers and its state
pub same_row : (row : Row) {offset other_offset records other_records lines other_lines : ℕ} {state other_state : List ℕ} → offset ≡ other_offset → records ≡ other_records → lines ≡ other_lines → state ≡ other_state
    → ◌≡◌ {A = Row} (record row { offset = offset; records = records; lines = lines; state = state }) (record row { offset = other_offset; records = other_records; lines = other_lines; state = other_state })
same_row row {offset} {other_offset} {records} {other_records} {lines} {other_lines} {state} {other_state} o r l s =
    ap (λ (n : ℕ). record row { offset = n; records = records; lines = lines; state = state }) o
    ∙ ap (λ (n : ℕ). record row { offset = other_offset; records = n; lines = lines; state = state }) r
    ∙ ap (λ (n : ℕ). record row { offset = other_offset; records = other_records; lines = n; state = state }) l
    ∙ ap (λ (t : List ℕ). record row { offset = other_offset; records = other_records; lines = other_lines; state = t }) s

module _ (poll : Poll) (laws : AreRules poll.rules) (read more : List ℕ) where
  abbrev behind : List ℕ
  behind = unused poll read more

  cuts_on : poll.rules.cuts (read ++ more) ≡ poll.rules.cuts read ++ poll.rules.cuts behind
  cuts_on =
      let rest = laws.tokens.lasting read more in
      let goes : poll.rules.cuts (drop (used poll.rules read) (read ++ more)) ≡ rest.0 = laws.tokens.going_on (read ++ more) (poll.rules.cuts read) rest.0 rest.1 in
      let same : drop (used poll.rules read) (read ++ more) ≡ behind = drop-append-le (used poll.rules read) read more (laws.tokens.within read) in
      rest.1 ∙ ap (λ (cs : List Cut). poll.rules.cuts read ++ cs) (sym goes ∙ ap poll.rules.cuts same)

  pub used_on : used poll.rules (read ++ more) ≡ used poll.rules read + used poll.rules behind
  used_on = ap used_by cuts_on ∙ used-append (poll.rules.cuts read) (poll.rules.cuts behind)

  pub tokens_on : tokens_of poll.rules (read ++ more) ≡ tokens_of poll.rules read ++ tokens_of poll.rules behind
  tokens_on = ap texts cuts_on ∙ texts-append (poll.rules.cuts read) (poll.rules.cuts behind)

  module _ (row : Row) (good : IsTrue (poll.rules.is_state row.state)) where
    made_on : poll.rules.made row.path row.records row.state (tokens_of poll.rules (read ++ more))
        ≡ poll.rules.made row.path row.records row.state (tokens_of poll.rules read) ++ poll.rules.made row.path (fed poll.rules read row).records (fed poll.rules read row).state (tokens_of poll.rules behind)
    made_on = ap (λ (ts : List (List ℕ)). poll.rules.made row.path row.records row.state ts) tokens_on ∙ laws.operators.made_in_parts row.path row.records row.state (tokens_of poll.rules read) (tokens_of poll.rules behind) good

    state_on : poll.rules.state_after row.path row.records row.state (tokens_of poll.rules (read ++ more))
        ≡ poll.rules.state_after row.path (fed poll.rules read row).records (fed poll.rules read row).state (tokens_of poll.rules behind)
    state_on = ap (λ (ts : List (List ℕ)). poll.rules.state_after row.path row.records row.state ts) tokens_on ∙ laws.operators.state_in_parts row.path row.records row.state (tokens_of poll.rules read) (tokens_of poll.rules behind) good

    records_on : row.records + length (tokens_of poll.rules (read ++ more)) ≡ row.records + length (tokens_of poll.rules read) + length (tokens_of poll.rules behind)
    records_on = omega (arith, ap length tokens_on, length-append (tokens_of poll.rules read) (tokens_of poll.rules behind))

    lines_count_on : row.lines + length (poll.rules.made row.path row.records row.state (tokens_of poll.rules (read ++ more)))
        ≡ (fed poll.rules read row).lines + length (poll.rules.made row.path (fed poll.rules read row).records (fed poll.rules read row).state (tokens_of poll.rules behind))
    lines_count_on = omega (arith, ap length made_on, length-append (poll.rules.made row.path row.records row.state (tokens_of poll.rules read)) (poll.rules.made row.path (fed poll.rules read row).records (fed poll.rules read row).state (tokens_of poll.rules behind)))

    pub fed_on : fed poll.rules (read ++ more) row ≡ fed poll.rules behind (fed poll.rules read row)
    fed_on = same_row row (omega (arith, used_on)) records_on lines_count_on state_on

    pub lines_on : lines_of poll (read ++ more) row ≡ lines_of poll read row ++ lines_of poll behind (fed poll.rules read row)
    lines_on =
        ap (λ (entries : List LogRecord). numbered row.id (row.lines + 1) poll.stamp entries) made_on
        ∙ numbered-append row.id (row.lines + 1) poll.stamp (poll.rules.made row.path row.records row.state (tokens_of poll.rules read)) (poll.rules.made row.path (fed poll.rules read row).records (fed poll.rules read row).state (tokens_of poll.rules behind))
        ∙ ap (λ (n : ℕ). lines_of poll read row ++ numbered row.id n poll.stamp (poll.rules.made row.path (fed poll.rules read row).records (fed poll.rules read row).state (tokens_of poll.rules behind)))
        (omega arith)

-- ---- no bytes

no_cuts : (cs : List Cut) → All (λ (c : Cut). 1 ≤ c.used) cs → used_by cs ≤ 0 → cs ≡ []
no_cuts [] some few = refl
no_cuts (c ∷ cs) some few =
    let first : 1 ≤ c.used = some 0 c (omega arith) in
    absurd (omega (arith, first, few, sum_by-cons (λ (cut : Cut). cut.used) c cs))

module _ (poll : Poll) (laws : AreRules poll.rules) where
  cuts_none : poll.rules.cuts [] ≡ []
  cuts_none = no_cuts (poll.rules.cuts []) (laws.tokens.each_uses []) (laws.tokens.within [])

  module _ (row : Row) (good : IsTrue (poll.rules.is_state row.state)) where
    made_none : poll.rules.made row.path row.records row.state (tokens_of poll.rules []) ≡ []
    made_none = ap (λ (cs : List Cut). poll.rules.made row.path row.records row.state (texts cs)) cuts_none ∙ laws.operators.none_made row.path row.records row.state good

    pub fed_none : fed poll.rules [] row ≡ row
    fed_none = same_row row (omega (arith, ap used_by cuts_none)) (omega (arith, ap length (ap texts cuts_none))) (omega (arith, ap length made_none)) (ap (λ (cs : List Cut). poll.rules.state_after row.path row.records row.state (texts cs)) cuts_none ∙ laws.operators.state_stays row.path row.records row.state good)

    pub lines_none : lines_of poll [] row ≡ []
    lines_none = ap (λ (entries : List LogRecord). numbered row.id (row.lines + 1) poll.stamp entries) made_none

-- each token uses a byte or more
few_cuts : (cuts : List Cut) → All (λ (c : Cut). 1 ≤ c.used) cuts → length (texts cuts) ≤ used_by cuts
few_cuts [] each = omega arith
few_cuts (first ∷ rest) each =
    let here : 1 ≤ first.used = each 0 first (omega arith) in
    omega (arith, here, few_cuts rest (λ k other within. each (suc k) other (omega arith)), sum_by-cons (λ (c : Cut). c.used) first rest)

pub few_tokens : (poll : Poll) → AreRules poll.rules → (given : List ℕ) → length (tokens_of poll.rules given) ≤ used poll.rules given
few_tokens poll laws given = few_cuts (poll.rules.cuts given) (laws.tokens.each_uses given)

-- numbering leaves as many
pub length-numbered : (id number : ℕ) (time : Option ℕ) (entries : List LogRecord) → length (numbered id number time entries) ≡ length entries
length-numbered id number time [] = refl
length-numbered id number time (entry ∷ entries) = omega (arith, length-numbered id (number + 1) time entries)
