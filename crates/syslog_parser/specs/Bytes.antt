-- The bytes that stand in the parts of a message.
use Rattle.std.specs.Prelude.{ℕ, Bool, not, ◌==◌, ◌||◌, ◌&&◌}
use Rattle.std.specs.Int.{is_in_range}

-- PRINTUSASCII of RFC 5424, section 6
abbrev pub is_printable : ℕ → Bool
is_printable byte = is_in_range 33 126 byte

-- `"`, `\` and `]`, which a backslash escapes in a value (RFC 5424, section 6.3.3)
abbrev pub is_special : ℕ → Bool
is_special byte = (byte == 34) || (byte == 92) || (byte == 93)

-- what stands for itself in a value
abbrev pub is_plain : ℕ → Bool
is_plain byte = not (is_special byte)

-- what a name of structured data is made of: all that is printable but `=`, `]` and `"` (RFC 5424, section 6.3.3)
abbrev pub is_name_byte : ℕ → Bool
is_name_byte byte = is_printable byte && not ((byte == 61) || (byte == 93) || (byte == 34))

abbrev pub is_not_space : ℕ → Bool
is_not_space byte = not (byte == 32)

-- what a tag of RFC 3164 is made of: all but a space, `[` and `:`
abbrev pub is_tag_byte : ℕ → Bool
is_tag_byte byte = not ((byte == 32) || (byte == 91) || (byte == 58))

-- what stands between the brackets behind a tag: all but `]`
abbrev pub is_bracketed : ℕ → Bool
is_bracketed byte = not (byte == 93)
