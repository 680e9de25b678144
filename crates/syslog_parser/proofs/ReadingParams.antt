-- Reading the parameters of an element.
use Rattle.std.proofs.Common.{◌≡◌, ℕ, List, [], ◌∷◌, ◌++◌, ◌∙◌, ap, sym, refl, subst, Err, false, ◌&&◌, ◌==◌, length, get_or, nat_lt, map, append_assoc, arith}
use Rattle.std.proofs.lemmas.List.{append-nil, map-append}
use Rattle.syslog_parser.specs.Bytes.{is_name_byte}
use Rattle.syslog_parser.specs.Inner.Reads.{HasNoWord, is_equals_sign, IsNameText, StopsInValue, PutsParam, StopsInParam, PutsParams, StopsInParams}
use Rattle.syslog_parser.specs.States5424.{Within, in_name, wants_quote, behind_value, step, value_at, outcome}
use Rattle.syslog_parser.specs.Structured.{IsContent, Param, IsParam, a_param, AreParams, no_param, next_param}
use Rattle.syslog_parser.specs.Told.{Member, put, put_all, told_param}
use Rattle.syslog_parser.proofs.Over5424.{name_word, name_stopping, name_over, quote_over, param_over}
use Rattle.syslog_parser.proofs.Putting.{put_all-append}
use Rattle.syslog_parser.proofs.Running.{outcome_goes, outcome_stops, outcome_unfinished}
use Rattle.syslog_parser.proofs.Runs.{word_stops}
use Rattle.syslog_parser.proofs.SoFar.{with_params, ParamsSoFar}
use Rattle.syslog_parser.proofs.Words.{if_false, stands_false}

-- ---- one

pub param_read : (text name valued quoted value rest : List ℕ) → IsNameText text name valued → valued ≡ 34 ∷ quoted → IsContent quoted value rest → IsParam text (name, value) rest
param_read text name valued quoted value rest n e c =
    subst (λ (l : List ℕ). IsParam l (name, value) rest) (sym (n.is ∙ ap (λ (l : List ℕ). name ++ 61 ∷ l) e)) (a_param n.name c)

pub name_fault : (text : List ℕ) (left : ℕ) → HasNoWord is_name_byte 32 is_equals_sign text left → StopsInParam text left
name_fault text left found within = word_stops step value_at (in_name within) is_name_byte 32 (name_word within) is_equals_sign (name_stopping within) text left (omega arith) found

pub quote_fault : (text name valued : List ℕ) → IsNameText text name valued → (nat_lt 0 (length valued) && (get_or valued 0 0 == 34)) ≡ false → StopsInParam text (length valued)
quote_fault text name valued n e within =
    ap (λ (l : List ℕ). outcome (in_name within []) l) n.is ∙ name_over within name valued n.name ∙ by valued e
  where
    by : (valued : List ℕ) → (nat_lt 0 (length valued) && (get_or valued 0 0 == 34)) ≡ false → outcome (wants_quote within name) valued ≡ Err (length valued)
    by [] e = outcome_unfinished step value_at (wants_quote within name) refl
    by (byte ∷ valued) e = outcome_stops step value_at (wants_quote within name) byte valued (if_false (byte == 34) _ _ (stands_false (byte ∷ valued) 0 34 e (omega arith)))

pub value_fault : (text name valued quoted : List ℕ) (left : ℕ) → IsNameText text name valued → valued ≡ 34 ∷ quoted → StopsInValue quoted left → StopsInParam text left
value_fault text name valued quoted left n e stop within =
    ap (λ (l : List ℕ). outcome (in_name within []) l) n.is ∙ name_over within name valued n.name
    ∙ ap (λ (l : List ℕ). outcome (wants_quote within name) l) e ∙ quote_over within name quoted ∙ stop within name

-- ---- many

pub no_params_read : (text : List ℕ) (members : List Member) → ParamsSoFar text text members members
no_params_read text members = record {
  params = [];
  told = refl;
  reads = λ more behind c. c;
  runs = λ within. ap (λ (l : List Param). outcome (behind_value (record within { params = l })) text) (sym (append-nil within.params));
}

module _ (text rest : List ℕ) (old new : List Member) (so : ParamsSoFar text rest old new) where
  pub params_done : (behind : List ℕ) → rest ≡ 93 ∷ behind → PutsParams text old new behind
  params_done behind e = record {
    params = so.params;
    spelled =
        subst (λ (l : List Param). AreParams text l behind) (append-nil so.params)
        (so.reads [] behind (subst (λ (l : List ℕ). AreParams l [] behind) (sym e) no_param));
    told = so.told;
  }

  pub params_fault_here : (nat_lt 0 (length rest) && (get_or rest 0 0 == 93)) ≡ false → (nat_lt 0 (length rest) && (get_or rest 0 0 == 32)) ≡ false → StopsInParams text (length rest)
  params_fault_here a b within = so.runs within ∙ by rest a b
    where
      s : Within
      s = with_params within so.params

      by : (rest : List ℕ) → (nat_lt 0 (length rest) && (get_or rest 0 0 == 93)) ≡ false → (nat_lt 0 (length rest) && (get_or rest 0 0 == 32)) ≡ false
          → outcome (behind_value s) rest ≡ Err (length rest)
      by [] a b = outcome_unfinished step value_at (behind_value s) refl
      by (byte ∷ rest) a b =
          outcome_stops step value_at (behind_value s) byte rest
          (if_false (byte == 32) _ _ (stands_false (byte ∷ rest) 0 32 b (omega arith)) ∙ if_false (byte == 93) _ _ (stands_false (byte ∷ rest) 0 93 a (omega arith)))

  module _ (named : List ℕ) (e : rest ≡ 32 ∷ named) where
    space_over : (within : Within) → outcome (behind_value within) rest ≡ outcome (in_name within []) named
    space_over within = ap (λ (l : List ℕ). outcome (behind_value within) l) e ∙ outcome_goes step value_at (behind_value within) (in_name within []) 32 named refl

    pub params_fault_in : (left : ℕ) → StopsInParam named left → StopsInParams text left
    params_fault_in left stop within = so.runs within ∙ space_over (with_params within so.params) ∙ stop (with_params within so.params)

    pub params_more : (newer : List Member) (next : List ℕ) → PutsParam named new newer next → ParamsSoFar text next old newer
    params_more newer next p = record {
      params = so.params ++ p.param ∷ [];
      told =
          p.told ∙ ap (λ (l : List Member). put l (told_param p.param)) so.told
          ∙ sym (put_all-append old (map told_param so.params) (told_param p.param ∷ []))
          ∙ ap (λ (l : List Member). put_all old l) (sym (map-append told_param so.params (p.param ∷ [])));
      reads = λ more behind c.
          subst (λ (l : List Param). AreParams text l behind) (sym (append_assoc so.params (p.param ∷ []) more))
          (so.reads (p.param ∷ more) behind (subst (λ (l : List ℕ). AreParams l (p.param ∷ more) behind) (sym e) (next_param p.spelled c)));
      runs = λ within.
          so.runs within ∙ space_over (with_params within so.params)
          ∙ param_over (with_params within so.params) p.spelled
          ∙ ap (λ (l : List Param). outcome (behind_value (record within { params = l })) next) (append_assoc within.params so.params (p.param ∷ []));
    }
