use Rattle.settings_text.proofs.FreeIds.{least_free, own_name, never_taken}
use Rattle.settings_text.proofs.laws.default_ids_are_free.Goals as goal

pub returns-clause-free : goal.returns-clause-free
returns-clause-free c = never_taken

pub returns-clause-own : goal.returns-clause-own
returns-clause-own c = own_name

pub returns-clause-numbered : goal.returns-clause-numbered
returns-clause-numbered c = least_free
