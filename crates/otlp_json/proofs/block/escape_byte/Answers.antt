use Rattle.std.proofs.Common.{rules}
use Rattle.otlp_json.proofs.Escapes.{plain_byte}
use Rattle.otlp_json.proofs.block.escape_byte.Goals as goal

pub returns-clause-bytes : goal.returns-clause-bytes
returns-clause-bytes c = rw (plain_byte c.args.byte (search rules)) c.put.ensures.bytes
