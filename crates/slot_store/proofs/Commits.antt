-- A commit, from its calls.
use Rattle.std.proofs.Common.{◌≡◌, ◌⊎◌, ℕ, ◌+◌, ◌≤◌, List, [], ◌∷◌, ◌++◌, length, take, false, Option, sym, ◌∙◌, ap, subst, inl, inr}
use Rattle.outside.proofs.Tearing.{at_file_weaker, at_file_then}
use Rattle.outside.specs.Crash.{Passes}
use Rattle.outside.specs.Image.{Image, AtFile}
use Rattle.outside.specs.Images.{Images}
use Rattle.outside.specs.declared.disk.DiskFile.{DiskFile}
use Rattle.slot_store.proofs.Choices.{decide_file, keeps_closed, keeps_same, is_committed}
use Rattle.slot_store.proofs.Leaving.{leaves_then, passes_on}
use Rattle.slot_store.specs.Committed.{free_file, next_sequence, next_slot, Chooses, KeepsChoice, IsCommitted, Commits, LeavesOne}
use Rattle.slot_store.specs.Frame.{is_open_at, frame_body, Clears, Opens, last_number}
use Rattle.slot_store.specs.Synced.{LeavesChanged}
use Rattle.slot_store.specs.declared.slot.Slot.{Slot}

-- what a commit may leave of the file that it writes
abbrev pub Replaces : List ℕ → List ℕ → List ℕ → Type 0
Replaces body old new = (new ≡ old) ⊎ ((is_open_at 0 new ≡ false) ⊎ (new ≡ 165 ∷ body))

pub replaces_cleared : (body old new : List ℕ) → Clears old new → Replaces body old new
replaces_cleared body old new (inl same) = inl same
replaces_cleared body old new (inr closed) = inr (inl closed)

-- the terms of a commit: which slot counts, and what is to be written
pub record IsCommit (before : Option Slot) (payload : List ℕ) (file : DiskFile) (body : List ℕ) : Type 0 where
  pub file_is : file ≡ free_file before
  pub body_is : body ≡ frame_body (next_sequence before) payload
  pub in_range : next_sequence before ≤ last_number
  pub within : length payload + 17 ≤ last_number

pub is_commit : (before : Option Slot) (payload : List ℕ) (next : Slot) (body : List ℕ) → next ≡ next_slot before payload → body ≡ frame_body next.sequence payload → next.sequence ≤ last_number → length payload + 17 ≤ last_number → IsCommit before payload next.file body
is_commit before payload next body next_is body_is in_range within = record {
  file_is = ap (λ slot. slot.file) next_is;
  body_is = body_is ∙ ap (λ slot. frame_body slot.sequence payload) next_is;
  in_range = subst (λ sequence. sequence ≤ last_number) (ap (λ slot. slot.sequence) next_is) in_range;
  within = within;
}

pub keeps_cleared : (before : Option Slot) (file : DiskFile) (old new : Image DiskFile) → file ≡ free_file before → AtFile file Clears old new → Chooses before old → KeepsChoice old new
keeps_cleared before file old new file_is at chosen =
    let others = rw file_is at at.others in
    elim (rw file_is at at.here) [
      | inl same ↦ keeps_same before old new others same
      | inr closed ↦ keeps_closed before old new others chosen closed
    ]

pub commits : {before : Option Slot} {payload : List ℕ} {file : DiskFile} {body : List ℕ} (old new : Image DiskFile) → IsCommit before payload file body → AtFile file (Replaces body) old new → Chooses before old → Commits before payload old new
commits {before} {payload} {file} {body} old new terms at chosen =
    let others = rw terms.file_is at at.others in
    record {
      others = others;
      choice = elim (rw (terms.file_is, terms.body_is) at at.here) [
        | inl same ↦ inl (keeps_same before old new others same)
        | inr changed ↦ elim changed [
          | inl closed ↦ inl (keeps_closed before old new others chosen closed)
          | inr is_frame ↦ inr (is_committed before payload old new others chosen is_frame terms.in_range terms.within)
        ]
      ];
    }

-- one image where all files but one stand, and that one is known
pub leaves_one : {D : Type 0} {images : Images DiskFile D} {old new : D} (file : DiskFile) (content : List ℕ) → LeavesChanged images (AtFile file (λ _ after. after ≡ content)) old new → LeavesOne images old → LeavesOne images new
leaves_one file content leaves one = record {
  same = λ first second left_first left_second other counts.
      let before = leaves.each first left_first in
      let past = leaves.each second left_second in
      elim (decide_file other file) [
        | inl is_file ↦ rw is_file (before.2.here ∙ sym past.2.here)
        | inr differs ↦ before.2.others other differs ∙ one.same before.0 past.0 before.1 past.1 other counts ∙ sym (past.2.others other differs)
      ];
}

pub commits_known : {before : Option Slot} {payload : List ℕ} {file : DiskFile} {body : List ℕ} (old new : Image DiskFile) → IsCommit before payload file body → AtFile file (λ _ after. after ≡ 165 ∷ body) old new → Chooses before old → IsCommitted before payload new
commits_known {before} {payload} old new terms at chosen =
    is_committed before payload old new (rw terms.file_is at at.others) chosen (rw (terms.file_is, terms.body_is) at at.here) terms.in_range terms.within

-- after both halves, whatever was left of the second
pub passes_halves : {D : Type 0} {images : Images DiskFile D} {old mid new : D} (file : DiskFile) (body : List ℕ) → Passes images (AtFile file Clears) old mid → LeavesChanged images (AtFile file (λ _ after. after ≡ 0 ∷ [])) old mid → Passes images (AtFile file (Opens 0 body)) mid new → Passes images (AtFile file (Replaces body)) old new
passes_halves file body clears cleared opens =
    passes_on clears cleared opens
    (λ x y at. at_file_weaker at (replaces_cleared body (x file) (y file)))
    (λ x y z left one two. at_file_then one two (λ alone opened. inr opened.rest))

pub leaves_halves : {D : Type 0} {images : Images DiskFile D} {old mid new : D} (file : DiskFile) (body : List ℕ) → LeavesChanged images (AtFile file (λ _ after. after ≡ 0 ∷ [])) old mid → LeavesChanged images (AtFile file (λ before after. after ≡ take 0 before ++ 165 ∷ body)) mid new → LeavesChanged images (AtFile file (λ _ after. after ≡ 165 ∷ body)) old new
leaves_halves file body cleared opened =
    leaves_then cleared opened (λ x y z one two. at_file_then one two (λ alone written. written))
