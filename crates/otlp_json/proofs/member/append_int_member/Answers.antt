use Rattle.std.proofs.Common.{◌≡◌, ◌++◌, [], OnOk, codes, sym, w64}
use Rattle.std.proofs.lemmas.Int.{to_z-of_z}
use Rattle.std.proofs.lemmas.List.{append_assoc}
use Rattle.std.specs.Fmt.{signed_decimal}
use Rattle.otlp_json.specs.Escaped.{escaped}
use Rattle.otlp_json.proofs.Appended.{last_appended}
use Rattle.otlp_json.proofs.Escapes.{integer_plain}
use Rattle.otlp_json.proofs.member.append_int_member.Goals as goal

pub returns-clause-ok : goal.returns-clause-ok
returns-clause-ok c =
    let plain : escaped c.as_bytes-digits.result.now ≡ signed_decimal c.args.number =
    rw (c.as_bytes-digits.ensures.value, c.format.ensures.text, to_z-of_z w64 c.args.number c.ranges.number) (integer_plain c.args.number) in
    let last = c.append_quoted in
    let all = last.new.out.items in
    let told : OnOk last.result (all ≡ c.args.out.now.items ++ c.args.opening.now ++ escaped c.args.key.now ++ codes "\",\"value\":{\"intValue\":\"" ++ signed_decimal c.args.number ++ codes "\"}}") =
    rw (sym plain) last.ensures.ok in
    last_appended last.result [] all _ _ told (simp append_assoc)
