use Rattle.std.proofs.Common.{◌∙◌, refl, codes, true, false, arith}
use Rattle.entry_model.specs.Datum.{null, boolean}
use Rattle.json_text.proofs.Values.{scalar_is_text, scalar_is_word, scalar_is_number, behind_byte}
use Rattle.json_text.proofs.reader.scalar.Goals as goal

pub text_value-requires : goal.text_value-requires
text_value-requires c = behind_byte c.args.text.now c.args.at c.args.byte c.utf8.text c.requires.inside c.requires.is (omega arith)

pub returns-then-byte-eq34 : goal.returns-then-byte-eq34
returns-then-byte-eq34 c = scalar_is_text c.args.text.now c.args.at c.text_value.result c.requires.inside (c.requires.is ∙ c.if-byte-eq34.true) c.text_value.ensures

pub returns-then-byte-eq110 : goal.returns-then-byte-eq110
returns-then-byte-eq110 c =
    scalar_is_word c.args.text.now c.args.at c.null.result 110 (codes "ull") null c.requires.inside (c.requires.is ∙ c.if-byte-eq110.true) (λ around. refl) c.null.ensures

pub returns-then-byte-eq116 : goal.returns-then-byte-eq116
returns-then-byte-eq116 c =
    scalar_is_word c.args.text.now c.args.at c.boolean.result 116 (codes "rue") (boolean true) c.requires.inside (c.requires.is ∙ c.if-byte-eq116.true) (λ around. refl) c.boolean.ensures

pub returns-then-byte-eq102 : goal.returns-then-byte-eq102
returns-then-byte-eq102 c =
    scalar_is_word c.args.text.now c.args.at c.boolean-then-byte-eq102.result 102 (codes "alse") (boolean false) c.requires.inside (c.requires.is ∙ c.if-byte-eq102.true) (λ around. refl) c.boolean-then-byte-eq102.ensures

pub returns : goal.returns
returns c =
    scalar_is_number c.args.text.now c.args.at c.number.result c.requires.inside c.args.byte c.requires.is c.requires.no_blank
    c.if-byte-eq34.false c.requires.no_list c.requires.no_map c.if-byte-eq110.false c.if-byte-eq116.false c.if-byte-eq102.false c.number.ensures
