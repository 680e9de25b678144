use Rattle.std.proofs.Common.{◌+◌, ◌-◌, ◌<◌, arith, length, take, drop, get_or, length-take, length-drop}
use Rattle.std.proofs.lemmas.List.{take_rest}
use Rattle.std.specs.Str.{IsUtf8}
use Rattle.expr_lang.proofs.Quotes.{content_utf8, quote_low, inner_utf8}
use Rattle.expr_lang.proofs.lexer.quoted.Goals as goal

pub text_of-requires : goal.text_of-requires
text_of-requires c =
    let bytes = c.as_bytes-bytes.result.now in
    let at = c.args.at in
    let quote = get_or bytes at 0 in
    let inner = take (length bytes - (at + 1)) (drop (at + 1) bytes) in
    let inside : at < length bytes = (let same = c.as_bytes-bytes.ensures.len in let within = c.requires.inside in omega (arith, same, within)) in
    let low : quote < 128 = quote_low quote (rw c.as_bytes-bytes.ensures.value c.requires.quote) in
    let utf8 : IsUtf8 inner = rw take_rest (inner_utf8 bytes at c.as_bytes-bytes.ensures.utf8 inside low) in
    content_utf8 quote inner c.in-Some.content.items c.in-Some.length low utf8 (rw c.in-Some.is at c.in_ok-content.ensures.value)

pub overflow_add-result : goal.overflow_add-result
overflow_add-result c =
    let bytes = c.as_bytes-bytes.result.now in
    let at = c.args.at in
    let within = (rw c.in-Some.is at c.in_ok-content.ensures.within) in
    let rest = length-take (length bytes - (at + 1)) (drop (at + 1) bytes) in
    let left = length-drop (at + 1) bytes in
    let same = c.as_bytes-bytes.ensures.len in
    omega (arith, within, rest, left, same)
