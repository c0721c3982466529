-- Worked examples, computed by the readers: strings, keys and bytes with their decoded texts, and the places of refusal.
use Rattle.std.specs.Prelude.{◌≡◌, refl, List, [], ◌∷◌, ℕ}
use Rattle.language.specs.Kind.{STRING, KEY, BYTES}
use Rattle.language.specs.Tree.{unescaped, leaf}
use Rattle.language.specs.Strings.{hex_number}
use Rattle.exact.specs.Class.{is, only}
use Rattle.exact.specs.Out.{Reader, soft, finish}
use Rattle.exact.specs.Verdict.{Res, acc, stop}
use Rattle.exact.specs.Lang.{ret_r, byte_r, end_r}
use Rattle.exact.specs.Comb.{seq_r}
use Rattle.strings.specs.Spans.{spanned_r}
use Rattle.strings.specs.Quoted.{escape_r, single_escape_r, between_r, quoted_r, string_r}
use Rattle.strings.specs.Keys.{bare_r, name_r, key_r}
use Rattle.strings.specs.Bytes.{pair_r, further_r, inside_r, angled_r, inline_bytes_r, pairs_r}

-- a document of one thing and LF
abbrev line : {X : Type 0} → Reader X → List ℕ → Res X
line r s = finish ((seq_r r λ v. seq_r (byte_r (is (only 10))) λ _. ret_r v) 0 s) end_r

-- P8: `"\u{D800}"` is refused at 8, its brace, though `"\u{D8000}"` is fine
p8 : line string_r (34 ∷ 92 ∷ 117 ∷ 123 ∷ 68 ∷ 56 ∷ 48 ∷ 48 ∷ 125 ∷ 34 ∷ 10 ∷ []) ≡ stop 8
unfolding escape_r single_escape_r between_r quoted_r string_r spanned_r hex_number
p8 = refl

-- P9: `"\u{110000}"` at 9, its sixth digit
p9 : line string_r (34 ∷ 92 ∷ 117 ∷ 123 ∷ 49 ∷ 49 ∷ 48 ∷ 48 ∷ 48 ∷ 48 ∷ 125 ∷ 34 ∷ 10 ∷ []) ≡ stop 9
unfolding escape_r single_escape_r between_r quoted_r string_r spanned_r hex_number
p9 = refl

-- `"\u{00D800}"` at 9, its sixth digit; `"\u{0D800}"` at 9, its brace
sixth : line string_r (34 ∷ 92 ∷ 117 ∷ 123 ∷ 48 ∷ 48 ∷ 68 ∷ 56 ∷ 48 ∷ 48 ∷ 125 ∷ 34 ∷ 10 ∷ []) ≡ stop 9
unfolding escape_r single_escape_r between_r quoted_r string_r spanned_r hex_number
sixth = refl

fifth : line string_r (34 ∷ 92 ∷ 117 ∷ 123 ∷ 48 ∷ 68 ∷ 56 ∷ 48 ∷ 48 ∷ 125 ∷ 34 ∷ 10 ∷ []) ≡ stop 9
unfolding escape_r single_escape_r between_r quoted_r string_r spanned_r hex_number
fifth = refl

-- `"\u{D8000}\n\u{e9}/é"`: the text is F3 98 80 80, LF, C3 A9, `/`, C3 A9
decoded : line string_r (34 ∷ 92 ∷ 117 ∷ 123 ∷ 68 ∷ 56 ∷ 48 ∷ 48 ∷ 48 ∷ 125 ∷ 92 ∷ 110 ∷ 92 ∷ 117 ∷ 123 ∷ 101 ∷ 57 ∷ 125 ∷ 92 ∷ 47 ∷ 195 ∷ 169 ∷ 34 ∷ 10 ∷ [])
    ≡ acc (leaf STRING 0 23 (record { bytes = 243 ∷ 152 ∷ 128 ∷ 128 ∷ 10 ∷ 195 ∷ 169 ∷ 47 ∷ 195 ∷ 169 ∷ []; escapes = 4 }))
unfolding escape_r single_escape_r between_r quoted_r string_r spanned_r hex_number
decoded = refl

-- `"\'"` at 2, and `"a` at its end
no_escape : line string_r (34 ∷ 92 ∷ 39 ∷ 34 ∷ 10 ∷ []) ≡ stop 2
unfolding escape_r single_escape_r between_r quoted_r string_r spanned_r hex_number
no_escape = refl

unclosed : line string_r (34 ∷ 97 ∷ []) ≡ stop 2
unfolding escape_r single_escape_r between_r quoted_r string_r spanned_r hex_number
unclosed = refl

-- `'\'"\\'` is `'"\`
single : line string_r (39 ∷ 92 ∷ 39 ∷ 34 ∷ 92 ∷ 92 ∷ 39 ∷ 10 ∷ []) ≡ acc (leaf STRING 0 7 (record { bytes = 39 ∷ 34 ∷ 92 ∷ []; escapes = 2 }))
unfolding escape_r single_escape_r between_r quoted_r string_r spanned_r hex_number
single = refl

-- Ticket 3: `'C:\img'` is `C:\img`; `'\n'` and `'\é'` have their backslashes too; LF behind one is refused at 3, a tab at 2
path : line string_r (39 ∷ 67 ∷ 58 ∷ 92 ∷ 105 ∷ 109 ∷ 103 ∷ 39 ∷ 10 ∷ []) ≡ acc (leaf STRING 0 8 (unescaped (67 ∷ 58 ∷ 92 ∷ 105 ∷ 109 ∷ 103 ∷ [])))
unfolding escape_r single_escape_r between_r quoted_r string_r spanned_r hex_number
path = refl

single_letter : line string_r (39 ∷ 92 ∷ 110 ∷ 39 ∷ 10 ∷ []) ≡ acc (leaf STRING 0 4 (unescaped (92 ∷ 110 ∷ [])))
unfolding escape_r single_escape_r between_r quoted_r string_r spanned_r hex_number
single_letter = refl

single_wide : line string_r (39 ∷ 92 ∷ 195 ∷ 169 ∷ 39 ∷ 10 ∷ []) ≡ acc (leaf STRING 0 5 (unescaped (92 ∷ 195 ∷ 169 ∷ [])))
unfolding escape_r single_escape_r between_r quoted_r string_r spanned_r hex_number
single_wide = refl

back_line : line string_r (39 ∷ 97 ∷ 92 ∷ 10 ∷ []) ≡ stop 3
unfolding escape_r single_escape_r between_r quoted_r string_r spanned_r hex_number
back_line = refl

back_tab : line string_r (39 ∷ 92 ∷ 9 ∷ 39 ∷ 10 ∷ []) ≡ stop 2
unfolding escape_r single_escape_r between_r quoted_r string_r spanned_r hex_number
back_tab = refl

-- `'\'` and `'\\\'` are not closed; `'\\'` is one backslash; `'\\\''` a backslash and a single quote
back_quote : line string_r (39 ∷ 92 ∷ 39 ∷ 10 ∷ []) ≡ stop 3
unfolding escape_r single_escape_r between_r quoted_r string_r spanned_r hex_number
back_quote = refl

back_open : line string_r (39 ∷ 92 ∷ 92 ∷ 92 ∷ 39 ∷ 10 ∷ []) ≡ stop 5
unfolding escape_r single_escape_r between_r quoted_r string_r spanned_r hex_number
back_open = refl

back_back : line string_r (39 ∷ 92 ∷ 92 ∷ 39 ∷ 10 ∷ []) ≡ acc (leaf STRING 0 4 (record { bytes = 92 ∷ []; escapes = 1 }))
unfolding escape_r single_escape_r between_r quoted_r string_r spanned_r hex_number
back_back = refl

back_back_quote : line string_r (39 ∷ 92 ∷ 92 ∷ 92 ∷ 39 ∷ 39 ∷ 10 ∷ []) ≡ acc (leaf STRING 0 6 (record { bytes = 92 ∷ 39 ∷ []; escapes = 2 }))
unfolding escape_r single_escape_r between_r quoted_r string_r spanned_r hex_number
back_back_quote = refl

-- the end of plane 1 is refused at its last byte
plane_end : line string_r (34 ∷ 240 ∷ 159 ∷ 191 ∷ 190 ∷ 34 ∷ 10 ∷ []) ≡ stop 4
unfolding escape_r single_escape_r between_r quoted_r string_r spanned_r hex_number
plane_end = refl

-- keys: `-5`, `""`, `'a\b'` with its backslash, and `a b` refused at 1
bare : line key_r (45 ∷ 53 ∷ 10 ∷ []) ≡ acc (leaf KEY 0 2 (unescaped (45 ∷ 53 ∷ [])))
unfolding escape_r single_escape_r between_r quoted_r bare_r name_r key_r spanned_r hex_number
bare = refl

empty_key : line key_r (34 ∷ 34 ∷ 10 ∷ []) ≡ acc (leaf KEY 0 2 (unescaped []))
unfolding escape_r single_escape_r between_r quoted_r bare_r name_r key_r spanned_r hex_number
empty_key = refl

back_key : line key_r (39 ∷ 97 ∷ 92 ∷ 98 ∷ 39 ∷ 10 ∷ []) ≡ acc (leaf KEY 0 5 (unescaped (97 ∷ 92 ∷ 98 ∷ [])))
unfolding escape_r single_escape_r between_r quoted_r bare_r name_r key_r spanned_r hex_number
back_key = refl

two_words : line key_r (97 ∷ 32 ∷ 98 ∷ 10 ∷ []) ≡ stop 1
unfolding escape_r single_escape_r between_r quoted_r bare_r name_r key_r spanned_r hex_number
two_words = refl

-- inline bytes: `<0a ff>`, `<>`; `<0A>` at 2, `<0a >` at 4, `<0a  ff>` at 4, `<0>` at 2
bytes : line inline_bytes_r (60 ∷ 48 ∷ 97 ∷ 32 ∷ 102 ∷ 102 ∷ 62 ∷ 10 ∷ []) ≡ acc (leaf BYTES 0 7 (unescaped (10 ∷ 255 ∷ [])))
unfolding pair_r further_r inside_r angled_r inline_bytes_r spanned_r
bytes = refl

no_bytes : line inline_bytes_r (60 ∷ 62 ∷ 10 ∷ []) ≡ acc (leaf BYTES 0 2 (unescaped []))
unfolding pair_r further_r inside_r angled_r inline_bytes_r spanned_r
no_bytes = refl

upper : line inline_bytes_r (60 ∷ 48 ∷ 65 ∷ 62 ∷ 10 ∷ []) ≡ stop 2
unfolding pair_r further_r inside_r angled_r inline_bytes_r spanned_r
upper = refl

space_last : line inline_bytes_r (60 ∷ 48 ∷ 97 ∷ 32 ∷ 62 ∷ 10 ∷ []) ≡ stop 4
unfolding pair_r further_r inside_r angled_r inline_bytes_r spanned_r
space_last = refl

two_spaces : line inline_bytes_r (60 ∷ 48 ∷ 97 ∷ 32 ∷ 32 ∷ 102 ∷ 102 ∷ 62 ∷ 10 ∷ []) ≡ stop 4
unfolding pair_r further_r inside_r angled_r inline_bytes_r spanned_r
two_spaces = refl

half : line inline_bytes_r (60 ∷ 48 ∷ 62 ∷ 10 ∷ []) ≡ stop 2
unfolding pair_r further_r inside_r angled_r inline_bytes_r spanned_r
half = refl

-- pairs of a hex line: `0aff 01`; after `0a` a space may be followed by a second one, and LF after it is refused
hexes : line pairs_r (48 ∷ 97 ∷ 102 ∷ 102 ∷ 32 ∷ 48 ∷ 49 ∷ 10 ∷ []) ≡ acc (10 ∷ 255 ∷ 1 ∷ [])
unfolding pair_r further_r pairs_r
hexes = refl

hex_soft : pairs_r 0 (48 ∷ 97 ∷ 32 ∷ 32 ∷ 35 ∷ 10 ∷ []) ≡ soft 3 (10 ∷ []) 2 (32 ∷ 32 ∷ 35 ∷ 10 ∷ [])
unfolding pair_r further_r pairs_r
hex_soft = refl

hex_last : line pairs_r (48 ∷ 97 ∷ 32 ∷ 10 ∷ []) ≡ stop 3
unfolding pair_r further_r pairs_r
hex_last = refl
