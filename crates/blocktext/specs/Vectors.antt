-- Worked examples, computed by the readers: block strings, block bytes and joined strings with spans and texts, and the places of refusal.
-- ⏎ is LF, ␠ a space, G the grave; what is read stands at the given place, and the document ends behind it.
use Rattle.std.specs.Prelude.{◌≡◌, refl, List, [], ◌∷◌, ℕ}
use Rattle.language.specs.Kind.{STRING, BYTES}
use Rattle.language.specs.Tree.{unescaped, Tree, leaf}
use Rattle.language.specs.BlockText.{body_text, body_end}
use Rattle.exact.specs.Verdict.{Res, acc, stop}
use Rattle.exact.specs.Out.{Reader, finish}
use Rattle.exact.specs.Lang.{end_r}
use Rattle.strings.specs.Quoted.{escape_r, single_escape_r, between_r, quoted_r}
use Rattle.strings.specs.Bytes.{pair_r, further_r, pairs_r}
use Rattle.blocktext.specs.TextLines.{text_line_r, body_line_r, body_r}
use Rattle.blocktext.specs.BlockStrings.{leader_text_r, open_string_r, property_string_r}
use Rattle.blocktext.specs.HexLines.{commented_r, content_r, hex_rest_r, hex_lines_r}
use Rattle.blocktext.specs.BlockBytes.{open_bytes_r, leader_comment_r, property_bytes_r}
use Rattle.blocktext.specs.Joined.{joined_line_r, joined_r}

abbrev ends : Reader Tree → ℕ → List ℕ → Res Tree
ends r at s = finish (r at s) end_r

-- OPEN BLOCK STRINGS
-- at the root, 01's border: `G⏎␠␠x⏎␠␠␠␠y⏎⏎⏎` is LF, x, LF, two spaces, y, LF, from 0 to 11
s₁ : ends (open_string_r 0) 0 (96 ∷ 10 ∷ 32 ∷ 32 ∷ 120 ∷ 10 ∷ 32 ∷ 32 ∷ 32 ∷ 32 ∷ 121 ∷ 10 ∷ 10 ∷ 10 ∷ [])
    ≡ acc (leaf STRING 0 11 (unescaped (10 ∷ 120 ∷ 10 ∷ 32 ∷ 32 ∷ 121 ∷ 10 ∷ [])))
unfolding open_string_r leader_text_r body_r body_line_r text_line_r body_text body_end
s₁ = refl

-- the item of `-␠G⏎␠␠x⏎` is refused at 6, and with three spaces it is LF, x, LF
s₂ : ends (open_string_r 2) 2 (96 ∷ 10 ∷ 32 ∷ 32 ∷ 120 ∷ 10 ∷ []) ≡ stop 6
unfolding open_string_r leader_text_r body_r body_line_r text_line_r body_text body_end
s₂ = refl

s₃ : ends (open_string_r 2) 2 (96 ∷ 10 ∷ 32 ∷ 32 ∷ 32 ∷ 120 ∷ 10 ∷ []) ≡ acc (leaf STRING 2 8 (unescaped (10 ∷ 120 ∷ 10 ∷ [])))
unfolding open_string_r leader_text_r body_r body_line_r text_line_r body_text body_end
s₃ = refl

-- `G⏎` is one LF, and so is `G⏎⏎`; `G␠␠x⏎` is a space, x, LF
s₄ : ends (open_string_r 0) 0 (96 ∷ 10 ∷ []) ≡ acc (leaf STRING 0 1 (unescaped (10 ∷ [])))
unfolding open_string_r leader_text_r body_r body_line_r text_line_r body_text body_end
s₄ = refl

s₅ : ends (open_string_r 0) 0 (96 ∷ 10 ∷ 10 ∷ []) ≡ acc (leaf STRING 0 1 (unescaped (10 ∷ [])))
unfolding open_string_r leader_text_r body_r body_line_r text_line_r body_text body_end
s₅ = refl

s₆ : ends (open_string_r 0) 0 (96 ∷ 32 ∷ 32 ∷ 120 ∷ 10 ∷ []) ≡ acc (leaf STRING 0 4 (unescaped (32 ∷ 120 ∷ 10 ∷ [])))
unfolding open_string_r leader_text_r body_r body_line_r text_line_r body_text body_end
s₆ = refl

-- a leader or a line that ends in a space is refused at its LF, a line of spaces alone too
s₇ : ends (open_string_r 0) 0 (96 ∷ 32 ∷ 10 ∷ []) ≡ stop 2
unfolding open_string_r leader_text_r body_r body_line_r text_line_r body_text body_end
s₇ = refl

s₈ : ends (open_string_r 0) 0 (96 ∷ 10 ∷ 32 ∷ 120 ∷ 32 ∷ 10 ∷ []) ≡ stop 5
unfolding open_string_r leader_text_r body_r body_line_r text_line_r body_text body_end
s₈ = refl

s₉ : ends (open_string_r 0) 0 (96 ∷ 10 ∷ 32 ∷ 32 ∷ 10 ∷ []) ≡ stop 4
unfolding open_string_r leader_text_r body_r body_line_r text_line_r body_text body_end
s₉ = refl

-- BLOCK STRINGS OF A PROPERTY
-- of `a:␠G⏎`: the empty string; of `a:␠G⏎⏎␠é⏎`: LF, é, LF
p₁ : ends (property_string_r 0) 3 (96 ∷ 10 ∷ []) ≡ acc (leaf STRING 3 4 (unescaped []))
unfolding property_string_r body_r body_line_r text_line_r body_text body_end
p₁ = refl

p₂ : ends (property_string_r 0) 3 (96 ∷ 10 ∷ 10 ∷ 32 ∷ 195 ∷ 169 ∷ 10 ∷ []) ≡ acc (leaf STRING 3 9 (unescaped (10 ∷ 195 ∷ 169 ∷ 10 ∷ [])))
unfolding property_string_r body_r body_line_r text_line_r body_text body_end
p₂ = refl

-- its leader has no text: `a:␠G␠` is refused at 4
p₃ : ends (property_string_r 0) 3 (96 ∷ 32 ∷ 120 ∷ 10 ∷ []) ≡ stop 4
unfolding property_string_r body_r body_line_r text_line_r body_text body_end
p₃ = refl

-- BLOCK BYTES
-- `>␠b0 b5⏎␠␠c0␠␠#⏎` goes on to the LF behind the comment
b₁ : ends (open_bytes_r 0) 0 (62 ∷ 32 ∷ 98 ∷ 48 ∷ 32 ∷ 98 ∷ 53 ∷ 10 ∷ 32 ∷ 32 ∷ 99 ∷ 48 ∷ 32 ∷ 32 ∷ 35 ∷ 10 ∷ []) ≡ acc (leaf BYTES 0 15 (unescaped (176 ∷ 181 ∷ 192 ∷ [])))
unfolding open_bytes_r hex_rest_r content_r commented_r hex_lines_r pairs_r pair_r further_r
b₁ = refl

-- of `a:␠>⏎␠␠#␠c⏎`: no bytes, and the comment line is inside the span; of `a:␠>␠#⏎␠0f⏎`: one
b₂ : ends (property_bytes_r 0) 3 (62 ∷ 10 ∷ 32 ∷ 32 ∷ 35 ∷ 32 ∷ 99 ∷ 10 ∷ []) ≡ acc (leaf BYTES 3 10 (unescaped []))
unfolding property_bytes_r leader_comment_r hex_rest_r content_r commented_r hex_lines_r pairs_r pair_r further_r
b₂ = refl

b₃ : ends (property_bytes_r 0) 3 (62 ∷ 32 ∷ 35 ∷ 10 ∷ 32 ∷ 48 ∷ 102 ∷ 10 ∷ []) ≡ acc (leaf BYTES 3 10 (unescaped (15 ∷ [])))
unfolding property_bytes_r leader_comment_r hex_rest_r content_r commented_r hex_lines_r pairs_r pair_r further_r
b₃ = refl

-- at least one hex line, no blank line, no half pair, at most one space between pairs
b₄ : ends (property_bytes_r 0) 3 (62 ∷ 10 ∷ []) ≡ stop 5
unfolding property_bytes_r leader_comment_r hex_rest_r content_r commented_r hex_lines_r pairs_r pair_r further_r
b₄ = refl

b₅ : ends (property_bytes_r 0) 3 (62 ∷ 10 ∷ 10 ∷ []) ≡ stop 5
unfolding property_bytes_r leader_comment_r hex_rest_r content_r commented_r hex_lines_r pairs_r pair_r further_r
b₅ = refl

b₆ : ends (open_bytes_r 0) 0 (62 ∷ 32 ∷ 98 ∷ 10 ∷ []) ≡ stop 3
unfolding open_bytes_r hex_rest_r content_r commented_r hex_lines_r pairs_r pair_r further_r
b₆ = refl

b₇ : ends (open_bytes_r 0) 0 (62 ∷ 32 ∷ 98 ∷ 48 ∷ 32 ∷ 32 ∷ 98 ∷ 53 ∷ 10 ∷ []) ≡ stop 6
unfolding open_bytes_r hex_rest_r content_r commented_r hex_lines_r pairs_r pair_r further_r
b₇ = refl

-- JOINED STRINGS: `"a"⏎␠␠'b'⏎` at column 2, from the first quote to the last; one line is too few; `'C:\a'⏎␠␠'\b'⏎` is `C:\a\b`
j₁ : ends (joined_r 2) 0 (34 ∷ 97 ∷ 34 ∷ 10 ∷ 32 ∷ 32 ∷ 39 ∷ 98 ∷ 39 ∷ 10 ∷ []) ≡ acc (leaf STRING 0 9 (unescaped (97 ∷ 98 ∷ [])))
unfolding joined_r joined_line_r quoted_r between_r escape_r single_escape_r
j₁ = refl

j₂ : ends (joined_r 2) 0 (34 ∷ 97 ∷ 34 ∷ 10 ∷ []) ≡ stop 4
unfolding joined_r joined_line_r quoted_r between_r escape_r single_escape_r
j₂ = refl

j₃ : ends (joined_r 2) 0 (39 ∷ 67 ∷ 58 ∷ 92 ∷ 97 ∷ 39 ∷ 10 ∷ 32 ∷ 32 ∷ 39 ∷ 92 ∷ 98 ∷ 39 ∷ 10 ∷ []) ≡ acc (leaf STRING 0 13 (unescaped (67 ∷ 58 ∷ 92 ∷ 97 ∷ 92 ∷ 98 ∷ [])))
unfolding joined_r joined_line_r quoted_r between_r escape_r single_escape_r
j₃ = refl
