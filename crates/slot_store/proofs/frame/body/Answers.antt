use Rattle.std.proofs.Common.{◌≡◌, ◌-◌, length, ◌∙◌, arith}
use Rattle.slot_store.proofs.Framed.{body_made}
use Rattle.std.specs.Prelude.{vec_len}
use Rattle.slot_store.proofs.frame.body.Goals as goal

pub rotate_right-requires : goal.rotate_right-requires
rotate_right-requires c = omega (arith, c.in_ok-extend_from_slice.ensures.len, c.in_ok-extend_from_slice-2.ensures.len)

pub returns : goal.returns
returns c =
    let payload = c.args.payload.items in
    let first = c.extend_from_slice.new.self.items in
    let second = c.extend_from_slice-2.new.self in
    let place : vec_len second - 16 ≡ length payload = omega (arith, second.ok.0, c.in_ok-extend_from_slice.ensures.len, c.in_ok-extend_from_slice-2.ensures.len, c.args.payload.ok.0) in
    body_made first second.items c.rotate_right.new.self.items c.to_be_bytes.result c.to_be_bytes-2.result payload c.args.sequence c.len-length.result (vec_len second - 16)
    c.to_be_bytes.ensures c.in_ok-extend_from_slice.ensures.items (c.len-length.ensures ∙ c.args.payload.ok.0) c.to_be_bytes-2.ensures c.in_ok-extend_from_slice-2.ensures.items place c.rotate_right.ensures.items
