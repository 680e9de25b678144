-- What is gone over to its end is a message's tail in the words of the grammar, and from each state some bytes lead to one.
use Rattle.std.proofs.Common.{◌≡◌, ℕ, suc, List, [], ◌∷◌, ◌++◌, ◌∙◌, ap, sym, refl, subst, Option, None, Some, Ok, Bool, true, not, ◌&&◌, ◌==◌, length, append_assoc, arith}
use Rattle.std.proofs.lemmas.List.{append-nil}
use Rattle.std.proofs.lemmas.List.Folds.{list_all-append}
use Rattle.std.specs.List.{list_all}
use Rattle.syslog_parser.specs.Bytes.{is_not_space, is_tag_byte, is_bracketed}
use Rattle.syslog_parser.specs.Rfc3164.{without_space, IsProcess, no_process, a_process, Tail, IsTail}
use Rattle.syslog_parser.specs.States3164.{Named, State, in_host, in_tag, in_process, wants_colon, behind_colon, in_message, is_begun, host_step, tag_end, tag_step, process_step, step, value_at, tail_of, outcome}
use Rattle.syslog_parser.specs.Words.{IsWord}
use Rattle.syslog_parser.proofs.Backwards.{Back, none_back, some_back, if_back, on_back, then_back, completed, Viable, leads, ends_at}

-- ---- what completes a state

abbrev AfterTag : List ℕ → Type 0
AfterTag text = (process : Option (List ℕ)) × (rest : List ℕ) × IsProcess text process rest

abbrev AfterHost : List ℕ → Type 0
AfterHost text = (tag : List ℕ) × (behind : List ℕ) × (text ≡ tag ++ behind) × IsWord is_tag_byte tag × AfterTag behind

abbrev Completes : State → List ℕ → Type 0
Completes (in_host own) text =
    list_all is_not_space own ≡ true → (more : List ℕ) × (rest : List ℕ) × (text ≡ more ++ 32 ∷ rest) × IsWord is_not_space (own ++ more) × AfterHost rest
Completes (in_tag host own) text =
    list_all is_tag_byte own ≡ true → (more : List ℕ) × (behind : List ℕ) × (text ≡ more ++ behind) × IsWord is_tag_byte (own ++ more) × AfterTag behind
Completes (in_process host tag own) text =
    list_all is_bracketed own ≡ true → (more : List ℕ) × (rest : List ℕ) × (text ≡ more ++ 93 ∷ 58 ∷ rest) × IsWord is_bracketed (own ++ more)
Completes (wants_colon named) text = (rest : List ℕ) × (text ≡ 58 ∷ rest)
Completes (behind_colon named) text = Unit {0}
Completes (in_message named own) text = Unit {0}

one_more : (kind : ℕ → Bool) (own : List ℕ) (byte : ℕ) → kind byte ≡ true → list_all kind own ≡ true → list_all kind (own ++ byte ∷ []) ≡ true
one_more kind own byte e all =
    list_all-append kind own (byte ∷ []) ∙ ap (λ (t : Bool). t && (kind byte && true)) all ∙ ap (λ (t : Bool). t && true) e

whole_word : (kind : ℕ → Bool) (own : List ℕ) → is_begun own ≡ true → list_all kind own ≡ true → IsWord kind (own ++ [])
whole_word kind [] e all = absurd (cc e)
whole_word kind (byte ∷ own) e all =
    subst (λ (l : List ℕ). IsWord kind l) (sym (append-nil (byte ∷ own))) (record { some = let len : length (byte ∷ own) ≡ suc (length own) = refl in omega arith; all = all })

module _ (bytes : List ℕ) where
  host_back : (own : List ℕ) (byte : ℕ) → Back Completes (Completes (in_host own) (byte ∷ bytes)) bytes (host_step own byte)
  host_back own byte =
      on_back Completes bytes (λ (b : ℕ). Completes (in_host own) (b ∷ bytes)) byte 32 _ _
      (if_back Completes bytes (is_begun own) _ _
      (λ e. some_back Completes bytes (in_tag own []) (λ h all.
      let r = h refl in ([], bytes, refl, whole_word is_not_space own e all, (r.0, r.1, r.2, r.3, r.4))))
      (λ _. none_back Completes bytes))
      (λ other. some_back Completes bytes (in_host (own ++ byte ∷ [])) (λ h all.
      let r = h (one_more is_not_space own byte (ap not other) all) in
      (byte ∷ r.0, r.1, ap (λ (l : List ℕ). byte ∷ l) r.2, subst (λ (l : List ℕ). IsWord is_not_space l) (append_assoc own (byte ∷ []) r.0) r.3, r.4)))

  end_back : (host own : List ℕ) (byte : ℕ) → Back Completes (AfterTag (byte ∷ bytes)) bytes (tag_end host own byte)
  end_back host own byte =
      on_back Completes bytes (λ (b : ℕ). AfterTag (b ∷ bytes)) byte 58 _ _
      (some_back Completes bytes (behind_colon (record { host = host; tag = own; process = None })) (λ h. (None, bytes, no_process)))
      (λ _. on_back Completes bytes (λ (b : ℕ). AfterTag (b ∷ bytes)) byte 91 _ _
      (some_back Completes bytes (in_process host own []) (λ h.
      let r = h refl in (Some r.0, r.1, subst (λ (l : List ℕ). IsProcess (91 ∷ l) (Some r.0) r.1) (sym r.2) (a_process r.3))))
      (λ _. none_back Completes bytes))

  tag_back : (host own : List ℕ) (byte : ℕ) → Back Completes (Completes (in_tag host own) (byte ∷ bytes)) bytes (tag_step host own byte)
  tag_back host own byte =
      if_back Completes bytes (is_tag_byte byte) _ _
      (λ e. some_back Completes bytes (in_tag host (own ++ byte ∷ [])) (λ h all.
      let r = h (one_more is_tag_byte own byte e all) in
      (byte ∷ r.0, r.1, ap (λ (l : List ℕ). byte ∷ l) r.2, subst (λ (l : List ℕ). IsWord is_tag_byte l) (append_assoc own (byte ∷ []) r.0) r.3, r.4)))
      (λ _. if_back Completes bytes (is_begun own) _ _
      (λ e. then_back Completes bytes (tag_end host own byte) (λ r all. ([], byte ∷ bytes, refl, whole_word is_tag_byte own e all, r)) (end_back host own byte))
      (λ _. none_back Completes bytes))

  process_back : (host tag own : List ℕ) (byte : ℕ) → Back Completes (Completes (in_process host tag own) (byte ∷ bytes)) bytes (process_step host tag own byte)
  process_back host tag own byte =
      on_back Completes bytes (λ (b : ℕ). Completes (in_process host tag own) (b ∷ bytes)) byte 93 _ _
      (if_back Completes bytes (is_begun own) _ _
      (λ e. some_back Completes bytes (wants_colon (record { host = host; tag = tag; process = Some own })) (λ h all.
      ([], h.0, ap (λ (l : List ℕ). 93 ∷ l) h.1, whole_word is_bracketed own e all)))
      (λ _. none_back Completes bytes))
      (λ other. some_back Completes bytes (in_process host tag (own ++ byte ∷ [])) (λ h all.
      let r = h (one_more is_bracketed own byte (ap not other) all) in
      (byte ∷ r.0, r.1, ap (λ (l : List ℕ). byte ∷ l) r.2, subst (λ (l : List ℕ). IsWord is_bracketed l) (append_assoc own (byte ∷ []) r.0) r.3)))

  step_back : (s : State) (byte : ℕ) → Back Completes (Completes s (byte ∷ bytes)) bytes (step s byte)
  step_back (in_host own) byte = host_back own byte
  step_back (in_tag host own) byte = tag_back host own byte
  step_back (in_process host tag own) byte = process_back host tag own byte
  step_back (wants_colon named) byte =
      on_back Completes bytes (λ (b : ℕ). Completes (wants_colon named) (b ∷ bytes)) byte 58 _ _
      (some_back Completes bytes (behind_colon named) (λ h. (bytes, refl))) (λ _. none_back Completes bytes)
  step_back (behind_colon named) byte =
      if_back Completes bytes (byte == 32) _ _ (λ _. some_back Completes bytes (in_message named []) (λ h. tt)) (λ _. some_back Completes bytes (in_message named (byte ∷ [])) (λ h. tt))
  step_back (in_message named own) byte = some_back Completes bytes (in_message named (own ++ byte ∷ [])) (λ h. tt)

at_end : (s : State) (v : Tail) → value_at s ≡ Some v → Completes s []
at_end (in_host own) v e = absurd (cc e)
at_end (in_tag host own) v e = absurd (cc e)
at_end (in_process host tag own) v e = absurd (cc e)
at_end (wants_colon named) v e = absurd (cc e)
at_end (behind_colon named) v e = tt
at_end (in_message named own) v e = tt

-- what the machine reads is a tail
pub tail_sound : (text : List ℕ) (v : Tail) → outcome (in_host []) text ≡ Ok v → (tail : Tail) × IsTail text tail
tail_sound text v e =
    let r = completed step value_at Completes step_back at_end text (in_host []) v e refl in
    let tail : Tail = record { host = r.0; tag = r.4.0; process = r.4.4.0; message = without_space r.4.4.1 } in (
      tail,
      record {
        behind_tag = r.4.1;
        behind_colon = r.4.4.1;
        is = r.2 ∙ ap (λ (l : List ℕ). r.0 ++ 32 ∷ l) r.4.2;
        host = r.3;
        tag = r.4.3;
        process = r.4.4.2;
        message = refl;
      },
    )

-- ---- from each state some bytes lead to a tail

abbrev Lives : State → Type 0
Lives s = Viable step value_at s

colon_viable : (named : Named) → Lives (behind_colon named)
colon_viable named = ends_at step value_at (behind_colon named) (tail_of named []) refl

tag_viable : (host own : List ℕ) → Lives (in_tag host own)
tag_viable host [] =
    leads step value_at (in_tag host []) (in_tag host (97 ∷ [])) 97 refl
    (leads step value_at (in_tag host (97 ∷ [])) (behind_colon (record { host = host; tag = 97 ∷ []; process = None })) 58 refl
    (colon_viable (record { host = host; tag = 97 ∷ []; process = None })))
tag_viable host (byte ∷ own) =
    leads step value_at (in_tag host (byte ∷ own)) (behind_colon (record { host = host; tag = byte ∷ own; process = None })) 58 refl
    (colon_viable (record { host = host; tag = byte ∷ own; process = None }))

host_viable : (own : List ℕ) → Lives (in_host own)
host_viable [] =
    leads step value_at (in_host []) (in_host (97 ∷ [])) 97 refl (leads step value_at (in_host (97 ∷ [])) (in_tag (97 ∷ []) []) 32 refl (tag_viable (97 ∷ []) []))
host_viable (byte ∷ own) = leads step value_at (in_host (byte ∷ own)) (in_tag (byte ∷ own) []) 32 refl (tag_viable (byte ∷ own) [])

wanted_viable : (named : Named) → Lives (wants_colon named)
wanted_viable named = leads step value_at (wants_colon named) (behind_colon named) 58 refl (colon_viable named)

process_viable : (host tag own : List ℕ) → Lives (in_process host tag own)
process_viable host tag [] =
    leads step value_at (in_process host tag []) (in_process host tag (97 ∷ [])) 97 refl
    (leads step value_at (in_process host tag (97 ∷ [])) (wants_colon (record { host = host; tag = tag; process = Some (97 ∷ []) })) 93 refl
    (wanted_viable (record { host = host; tag = tag; process = Some (97 ∷ []) })))
process_viable host tag (byte ∷ own) =
    leads step value_at (in_process host tag (byte ∷ own)) (wants_colon (record { host = host; tag = tag; process = Some (byte ∷ own) })) 93 refl
    (wanted_viable (record { host = host; tag = tag; process = Some (byte ∷ own) }))

viable_from : (s : State) → Lives s
viable_from (in_host own) = host_viable own
viable_from (in_tag host own) = tag_viable host own
viable_from (in_process host tag own) = process_viable host tag own
viable_from (wants_colon named) = wanted_viable named
viable_from (behind_colon named) = colon_viable named
viable_from (in_message named own) = ends_at step value_at (in_message named own) (tail_of named own) refl

pub viable : (s : State) → (more : List ℕ) × (v : Tail) × (outcome s more ≡ Ok v)
viable s = let r = viable_from s in (r.more, r.v, r.runs)
