-- Records, walked from one content to another.
use Rattle.std.proofs.Common.{◌≡◌, ℕ, ◌+◌, ◌≤◌, List, [], ◌++◌, ◌∷◌, length, drop, true, sym, ◌∙◌, ap, subst, append_assoc, arith}
use Rattle.std.specs.Prelude.{map}
use Rattle.std.proofs.lemmas.List.{map-append}
use Rattle.slot_store.specs.Frame.{payload_at, last_number}
use Rattle.record_log.proofs.Fronts.{SameBefore, end_same, payload_same, counts_same, counts_dropped, end_dropped, payload_dropped}
use Rattle.record_log.specs.Records.{counts_at, end_at, HasRecords, no_more, record_at}

pub end_no_less : {content : List ℕ} {place sequence : ℕ} {payloads : List (List ℕ)} {end last : ℕ} → HasRecords content place sequence payloads end last → place ≤ end
end_no_less (no_more place sequence stops) = omega arith
end_no_less (record_at place sequence payloads end last counts rest) = let further = end_no_less rest in omega arith

pub last_no_less : {content : List ℕ} {place sequence : ℕ} {payloads : List (List ℕ)} {end last : ℕ} → HasRecords content place sequence payloads end last → sequence ≤ last
last_no_less (no_more place sequence stops) = omega arith
last_no_less (record_at place sequence payloads end last counts rest) = let further = last_no_less rest in omega arith

-- The records before a place are those of a content that is equal there, and more may follow.
pub walk : {old : List ℕ} {place sequence : ℕ} {payloads : List (List ℕ)} {end last : ℕ} (new : List ℕ) (more : List (List ℕ)) (final newest : ℕ) → HasRecords old place sequence payloads end last → SameBefore end old new → HasRecords new end last more final newest → HasRecords new place sequence (payloads ++ more) final newest
walk new more final newest (no_more place sequence stops) same rest = rest
walk {old} new more final newest (record_at place sequence payloads end last counts behind) same rest =
    let within : end_at place old ≤ end = end_no_less behind in
    let further : HasRecords new (end_at place old) (sequence + 1) (payloads ++ more) final newest = walk new more final newest behind same rest in
    let ends : end_at place new ≡ end_at place old = end_same end place old new (omega arith) same in
    subst (λ payload. HasRecords new place sequence (payload ∷ (payloads ++ more)) final newest) (payload_same end place old new within same)
    (record_at place sequence (payloads ++ more) final newest (counts_same end place sequence old new counts within same) (subst (λ at. HasRecords new at (sequence + 1) (payloads ++ more) final newest) (sym ends) further))

-- records of what stands behind a place, seen from the begin
pub walk_dropped : (from : ℕ) (content : List ℕ) → length content ≤ last_number → {place sequence : ℕ} {payloads : List (List ℕ)} {end last : ℕ} → HasRecords (drop from content) place sequence payloads end last → HasRecords content (from + place) sequence payloads (from + end) last
walk_dropped from content within (no_more place sequence stops) = no_more (from + place) sequence (sym (counts_dropped from place sequence content within) ∙ stops)
walk_dropped from content within (record_at place sequence payloads end last counts behind) =
    let further : HasRecords content (from + end_at place (drop from content)) (sequence + 1) payloads (from + end) last = walk_dropped from content within behind in
    subst (λ payload. HasRecords content (from + place) sequence (payload ∷ payloads) (from + end) last) (sym (payload_dropped from place content))
    (record_at (from + place) sequence payloads (from + end) last (sym (counts_dropped from place sequence content within) ∙ counts) (subst (λ at. HasRecords content at (sequence + 1) payloads (from + end) last) (end_dropped from place content) further))

-- one more record of those that were read
pub read_further : {V : Type 0} (items : V → List ℕ) (content : List ℕ) (start first place sequence next end : ℕ) (records pushed : List V) (payload : V) (more : List (List ℕ)) (final newest : ℕ) → ((rest : List (List ℕ)) (last_end last : ℕ) → HasRecords content place sequence rest last_end last → HasRecords content start first (map items records ++ rest) last_end last) → counts_at place sequence content ≡ true → next ≡ sequence + 1 → end ≡ end_at place content → items payload ≡ payload_at place content → pushed ≡ records ++ payload ∷ [] → HasRecords content end next more final newest → HasRecords content start first (map items pushed ++ more) final newest
read_further items content start first place sequence next end records pushed payload more final newest so_far counts next_is end_is payload_is pushed_is behind =
    let here : HasRecords content (end_at place content) (sequence + 1) more final newest = subst (λ at. HasRecords content at (sequence + 1) more final newest) end_is (subst (λ after. HasRecords content end after more final newest) next_is behind) in
    let same : map items records ++ (payload_at place content ∷ more) ≡ map items pushed ++ more =
    ap (λ bytes. map items records ++ (bytes ∷ more)) (sym payload_is)
    ∙ sym (append_assoc (map items records) (items payload ∷ []) more)
    ∙ ap (λ list. list ++ more) (sym (map-append items records (payload ∷ [])))
    ∙ ap (λ list. map items list ++ more) (sym pushed_is) in
    subst (λ payloads. HasRecords content start first payloads final newest) same
    (so_far (payload_at place content ∷ more) final newest (record_at place sequence more final newest counts here))
