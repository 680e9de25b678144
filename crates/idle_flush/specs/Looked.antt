-- What a look at a file remembers, and at which look what waits is flushed.
use Rattle.std.specs.Prelude.{◌≡◌, ℕ, ◌+◌, ◌≤◌, ◌==◌, nat_le, not, ◌||◌, Bool, true, false, if◌then◌else◌}
use Rattle.idle_flush.specs.declared.idle.Idle.{Idle}

-- Where nothing is pending, or the size isn't the one that was seen, counting begins anew at this size. Else there is one quiet
-- look more; with the last of as many as are asked for, what waits is flushed and counting begins anew.
abbrev pub looked : Idle → ℕ → Bool → ℕ → Idle × Bool
looked idle size pending after =
    if not pending || not (size == idle.seen) then (record { seen = size; quiet = 0 }, false)
    else (if nat_le after (idle.quiet + 1) then (record { seen = size; quiet = 0 }, true)
    else (record { seen = size; quiet = idle.quiet + 1 }, false))

-- something is pending, the size is that of the look before, and the quiet looks are as many as are asked for
pub record Flushes (idle : Idle) (size : ℕ) (pending : Bool) (after : ℕ) : Type 0 where
  pub waits : pending ≡ true
  pub same : size ≡ idle.seen
  pub enough : after ≤ idle.quiet + 1
