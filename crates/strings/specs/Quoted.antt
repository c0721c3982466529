-- The readers of quoted strings, and that they are exact.
use Rattle.std.specs.Prelude.{◌≡◌, refl, [], ◌∷◌, ◌++◌, true, ℕ}
use Rattle.language.specs.Kind.{STRING}
use Rattle.language.specs.Tree.{Decoded, unescaped, escaped, together, Tree}
use Rattle.language.specs.Characters.{utf8}
use Rattle.language.specs.Strings.{hex_number, lettered, stands_for, Escape, SingleEscape, Between, Double}
use Rattle.std.proofs.Common.{arith}
use Rattle.exact.specs.Class.{Class, is, only, apart, apart_nil, leb_yes, ◌to◌}
use Rattle.exact.specs.Out.{Reader}
use Rattle.exact.specs.Lang.{Lang, ret_r, byte_r}
use Rattle.exact.specs.Comb.{seq_r, map_r, alt_r, many_r}
use Rattle.exact.specs.Ll.{Shape, Ll, ret_ll, byte_ll, seq_ll, alt_ll, star_ll, relax, word_r, word_ll, byte₁}
use Rattle.utf8.specs.Char.{char_r, char_s}
use Rattle.utf8.proofs.CharLaws.{char_ll}
use Rattle.strings.specs.Code.{code_r, code_ll}
use Rattle.strings.specs.Spans.{sub_self, solid, spanned_r}

-- ESCAPES: a backslash, and what stands behind it: a letter, or `u{..}`, read as `u{`, the digits and `}`
abbrev pub letter_r : Reader Decoded
letter_r = seq_r (byte_r (is lettered)) λ b. ret_r (escaped (stands_for b ∷ []))

abbrev pub braced_r : Reader Decoded
braced_r = seq_r code_r λ ds. seq_r (byte_r (is (only 125))) λ _. ret_r (escaped (utf8 (hex_number 0 ds)))

abbrev pub coded_r : Reader Decoded
coded_r = seq_r (word_r (117 ∷ 123 ∷ [])) λ _. braced_r

abbrev pub behind_r : Reader Decoded
behind_r = alt_r (is lettered) letter_r coded_r

unfoldable pub escape_r : Reader Decoded
escape_r = seq_r (byte_r (is (only 92))) λ _. behind_r

abbrev pub singled : Class
singled = (39 to 39) ∷ (92 to 92) ∷ []

abbrev pub itself_r : Reader Decoded
itself_r = seq_r (byte_r (is singled)) λ b. ret_r (escaped (b ∷ []))

abbrev pub unsingle : Class
unsingle = (32 to 38) ∷ (40 to 91) ∷ (93 to 126) ∷ []

abbrev pub unescaped_r : Reader Decoded
unescaped_r = seq_r (char_r unsingle) λ c. ret_r (unescaped (92 ∷ c))

-- a backslash that stays as itself, read from itself on: its text is as long as it is
abbrev pub kept_r : Reader Decoded
kept_r = seq_r (byte_r (is (only 92))) λ _. unescaped_r

abbrev pub singled_r : Reader Decoded
singled_r = alt_r (is singled) itself_r unescaped_r

unfoldable pub single_escape_r : Reader Decoded
single_escape_r = seq_r (byte_r (is (only 92))) λ _. singled_r

abbrev pub escape_s : Shape
escape_s = solid (only 92) []

pub escape_ll : Ll escape_s Escape escape_r
unfolding escape_r
escape_ll =
    relax
    escape_s
    refl
    refl
    refl
    (seq_ll refl (byte₁ 92) λ _.
    alt_ll
    refl
    refl
    (seq_ll refl (byte_ll lettered 34 refl) λ b. ret_ll (escaped (stands_for b ∷ [])))
    (seq_ll refl (word_ll (117 ∷ 123 ∷ [])) λ _. seq_ll refl code_ll λ ds. seq_ll refl (byte₁ 125) λ _. ret_ll (escaped (utf8 (hex_number 0 ds)))))

pub single_escape_ll : Ll escape_s SingleEscape single_escape_r
unfolding single_escape_r
single_escape_ll =
    relax
    escape_s
    refl
    refl
    refl
    (seq_ll refl (byte₁ 92) λ _. alt_ll refl refl (seq_ll refl (byte_ll singled 39 refl) λ b. ret_ll (escaped (b ∷ []))) (seq_ll refl (char_ll unsingle) λ c. ret_ll (unescaped (92 ∷ c))))

-- BETWEEN QUOTES
abbrev pub piece_r : Reader Decoded → Class → Reader Decoded
piece_r r others = alt_r (is (only 92)) r (map_r unescaped (char_r others))

abbrev pub piece_s : Class → Shape
piece_s others = solid (only 92 ++ (char_s others).first) []

unfoldable pub between_r : ℕ → Reader Decoded → Class → Reader Decoded
between_r quote r others =
    seq_r (byte_r (is (only quote))) λ _. seq_r (many_r (is (piece_s others).first) (piece_r r others)) λ ps. seq_r (byte_r (is (only quote))) λ _. ret_r (together ps)

abbrev pub between_s : ℕ → Shape
between_s quote = solid (only quote) []

-- the quote is none of the characters, and neither is the backslash
pub between_ll : (quote : ℕ) (others : Class) {E : Lang Decoded} {r : Reader Decoded} → apart (char_s others).first (only 92) ≡ true
    → apart (only quote) (piece_s others).first ≡ true → Ll escape_s E r → Ll (between_s quote) (Between quote E others) (between_r quote r others)
unfolding between_r
between_ll quote others e f l =
    relax
    (between_s quote)
    refl
    (rw (leb_yes quote quote (omega arith)) refl)
    refl
    (seq_ll (apart_nil ((piece_s others).first ++ only quote)) (byte₁ quote) λ _. seq_ll f (star_ll refl (apart_nil (piece_s others).first) (alt_ll refl e l (relax (char_s others) refl (sub_self (char_s others).first) refl (seq_ll refl (char_ll others) λ c. ret_ll (unescaped c))))) λ ps. seq_ll refl (byte₁ quote) λ _. ret_ll (together ps))

abbrev pub unquoted : Class
unquoted = (32 to 33) ∷ (35 to 91) ∷ (93 to 126) ∷ []

abbrev pub double_r : Reader Decoded
double_r = between_r 34 escape_r unquoted

abbrev pub single_r : Reader Decoded
single_r = between_r 39 single_escape_r unsingle

pub double_ll : Ll (between_s 34) Double double_r
double_ll = between_ll 34 unquoted refl refl escape_ll

-- EITHER QUOTE
unfoldable pub quoted_r : Reader Decoded
quoted_r = alt_r (is (only 34)) double_r single_r

abbrev pub quoted_s : Shape
quoted_s = solid ((34 to 34) ∷ (39 to 39) ∷ []) []

-- A STRING
unfoldable pub string_r : Reader Tree
string_r = spanned_r STRING quoted_r

abbrev pub string_s : Shape
string_s = quoted_s
