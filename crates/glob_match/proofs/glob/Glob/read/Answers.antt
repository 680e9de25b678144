use Rattle.std.proofs.Common.{◌≡◌, Ok}
use Rattle.std.proofs.lemmas.Iterator.{YieldsList-from_chars, items_from_collect}
use Rattle.std.specs.Str.{chars}
use Rattle.std.specs.declared.alloc.AllocError.{AllocError}
use Rattle.glob_match.proofs.glob.Glob.read.Goals as goal

pub returns-clause-ok : goal.returns-clause-ok
returns-clause-ok c =
    let items : c.in_ok-characters.characters.items ≡ chars c.args.text.now =
    items_from_collect {E = AllocError} (Ok c.in_ok-characters.characters) c.in_ok-characters.ensures.ran (YieldsList-from_chars c.args.text.now c.utf8.text cc) in
    rw (← items, ← c.deref.ensures.value) c.read_characters.ensures.ok

pub returns-clause-fault : goal.returns-clause-fault
returns-clause-fault c =
    let items : c.in_ok-characters.characters.items ≡ chars c.args.text.now =
    items_from_collect {E = AllocError} (Ok c.in_ok-characters.characters) c.in_ok-characters.ensures.ran (YieldsList-from_chars c.args.text.now c.utf8.text cc) in
    rw (← items, ← c.deref.ensures.value) c.read_characters.ensures.fault
