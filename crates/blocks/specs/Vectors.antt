-- Worked examples, computed by the reader of documents: the places of refusal where several things could stand, and a few trees.
-- ⏎ is LF, ␠ a space, G the grave.
use Rattle.std.specs.Prelude.{◌≡◌, refl, List, [], ◌∷◌, ℕ, zero, suc}
use Rattle.language.specs.Kind.{INTEGER, ARRAY, OBJECT, KEY, STRING}
use Rattle.language.specs.Tree.{Tree, leaf, node, none, more, unescaped}
use Rattle.language.specs.Scalars.{plain, minus}
use Rattle.language.specs.Strings.{hex_number}
use Rattle.language.specs.BlockText.{body_text, body_end}
use Rattle.exact.specs.Verdict.{Res, acc, stop}
use Rattle.numbers.specs.Digits.{more_r, digits_r}
use Rattle.numbers.specs.Plain.{exponent_r, fraction_r, dotted_r, after_r, unsigned_r, nan_r, signed_r, body_r, plain_r}
use Rattle.strings.specs.Bytes.{pair_r, further_r, inside_r, angled_r, inline_bytes_r, pairs_r}
use Rattle.strings.specs.Keys.{bare_r, name_r, key_r}
use Rattle.strings.specs.Quoted.{escape_r, single_escape_r, between_r, quoted_r, string_r}
use Rattle.strings.specs.Spans.{spanned_r}
use Rattle.inline.specs.Lists.{listed_r, inline_array_r, inline_pair_r, inline_object_r}
use Rattle.inline.specs.Values.{quotes_r, scalar_r, container_r, value_r}
use Rattle.blocktext.specs.TextLines.{text_line_r, body_line_r, body_r as textBodyR}
use Rattle.blocktext.specs.BlockStrings.{leader_text_r, open_string_r, property_string_r}
use Rattle.blocktext.specs.HexLines.{commented_r, content_r, hex_rest_r, hex_lines_r}
use Rattle.blocktext.specs.BlockBytes.{open_bytes_r, leader_comment_r, property_bytes_r}
use Rattle.blocktext.specs.Joined.{joined_line_r, joined_r}
use Rattle.blocks.specs.Or.{or_r}
use Rattle.blocks.specs.Lines.{lines_r}
use Rattle.blocks.specs.Rest.{rest_r}
use Rattle.blocks.specs.ValueLine.{line_r}
use Rattle.blocks.specs.Property.{on_r, property_r, object_r}
use Rattle.blocks.specs.Array.{dashed_r, array_r, bullet_r}
use Rattle.blocks.specs.Lead.{lead_r}
use Rattle.blocks.specs.Openers.{opener_r, nested_line_r}
use Rattle.blocks.specs.Nested.{nested_here_r, item_r}
use Rattle.blocks.specs.Root.{root_r}
use Rattle.blocks.specs.Document.{head_r, whole_r, verdict}

unfoldable answer : List ℕ → Res Tree
unfolding plain minus hex_number body_text body_end more_r digits_r exponent_r fraction_r dotted_r after_r unsigned_r nan_r signed_r body_r plain_r pair_r further_r inside_r angled_r inline_bytes_r pairs_r bare_r name_r key_r escape_r single_escape_r between_r quoted_r string_r spanned_r listed_r inline_array_r inline_pair_r inline_object_r quotes_r scalar_r container_r value_r text_line_r body_line_r textBodyR leader_text_r open_string_r property_string_r commented_r content_r hex_rest_r hex_lines_r open_bytes_r leader_comment_r property_bytes_r joined_line_r joined_r or_r lines_r rest_r line_r on_r property_r object_r dashed_r array_r bullet_r lead_r opener_r nested_line_r nested_here_r item_r root_r head_r whole_r verdict
answer s = verdict 32 s

abbrev dashes : ℕ → List ℕ → List ℕ
dashes zero s = s
dashes (suc n) s = 45 ∷ 32 ∷ dashes n s

-- TREES
-- `-␠-5⏎`: an array of -5
t₁ : answer (45 ∷ 32 ∷ 45 ∷ 53 ∷ 10 ∷ []) ≡ acc (node ARRAY 0 4 1 (more (leaf INTEGER 2 4 (unescaped (45 ∷ 53 ∷ []))) none))
unfolding answer
t₁ = refl

-- `-␠-␠5⏎`: an array of an array of 5
t₂ : answer (45 ∷ 32 ∷ 45 ∷ 32 ∷ 53 ∷ 10 ∷ []) ≡ acc (node ARRAY 0 5 1 (more (node ARRAY 2 5 1 (more (leaf INTEGER 4 5 (unescaped (53 ∷ []))) none)) none))
unfolding answer
t₂ = refl

-- `-␠a:␠1⏎␠␠b:⏎␠␠␠␠"c"⏎␠␠␠␠'d'⏎⏎`: an item's object goes on below it, and strings are joined
t₃ : answer
    (45 ∷ 32 ∷ 97 ∷ 58 ∷ 32 ∷ 49 ∷ 10 ∷ 32 ∷ 32 ∷ 98 ∷ 58 ∷ 10 ∷ 32 ∷ 32 ∷ 32 ∷ 32 ∷ 34 ∷ 99 ∷ 34 ∷ 10 ∷ 32 ∷ 32 ∷ 32 ∷ 32 ∷ 39 ∷ 100 ∷ 39 ∷ 10 ∷ 10 ∷ [])
    ≡ acc
    (node ARRAY 0 27 1
    (more
    (node OBJECT 2 27 2
    (more (leaf KEY 2 3 (unescaped (97 ∷ []))) (more (leaf INTEGER 5 6 (unescaped (49 ∷ []))) (more (leaf KEY 9 10 (unescaped (98 ∷ []))) (more (leaf STRING 16 27 (unescaped (99 ∷ 100 ∷ []))) none)))))
    none))
unfolding answer
t₃ = refl

-- `a:␠G⏎⏎b:␠1⏎`: the blank line is the block string's
t₄ : answer (97 ∷ 58 ∷ 32 ∷ 96 ∷ 10 ∷ 10 ∷ 98 ∷ 58 ∷ 32 ∷ 49 ∷ 10 ∷ [])
    ≡ acc
    (node OBJECT 0 10 2 (more (leaf KEY 0 1 (unescaped (97 ∷ []))) (more (leaf STRING 3 4 (unescaped [])) (more (leaf KEY 6 7 (unescaped (98 ∷ []))) (more (leaf INTEGER 9 10 (unescaped (49 ∷ []))) none)))))
unfolding answer
t₄ = refl

-- BORDERS OF 01
-- nothing
r1 : answer [] ≡ stop 0
unfolding answer
r1 = refl

-- `1` without LF
r2 : answer (49 ∷ []) ≡ stop 1
unfolding answer
r2 = refl

-- `[1,2]⏎`
r3 : answer (91 ∷ 49 ∷ 44 ∷ 50 ∷ 93 ∷ 10 ∷ []) ≡ stop 3
unfolding answer
r3 = refl

-- `a: 1␠⏎`
r4 : answer (97 ∷ 58 ∷ 32 ∷ 49 ∷ 32 ∷ 10 ∷ []) ≡ stop 5
unfolding answer
r4 = refl

-- `nulls⏎`: a key could stand
r5 : answer (110 ∷ 117 ∷ 108 ∷ 108 ∷ 115 ∷ 10 ∷ []) ≡ stop 5
unfolding answer
r5 = refl

-- `a: nulls⏎`
r6 : answer (97 ∷ 58 ∷ 32 ∷ 110 ∷ 117 ∷ 108 ∷ 108 ∷ 115 ∷ 10 ∷ []) ≡ stop 7
unfolding answer
r6 = refl

-- `k:⏎j: 1⏎`
r7 : answer (107 ∷ 58 ∷ 10 ∷ 106 ∷ 58 ∷ 32 ∷ 49 ∷ 10 ∷ []) ≡ stop 3
unfolding answer
r7 = refl

-- COMMENTS AND LINE ENDS
-- `#␠⏎1⏎`
r8 : answer (35 ∷ 32 ∷ 10 ∷ 49 ∷ 10 ∷ []) ≡ stop 2
unfolding answer
r8 = refl

-- `1␠␠#␠c⏎`: one space could stand between digits
r9 : answer (49 ∷ 32 ∷ 32 ∷ 35 ∷ 32 ∷ 99 ∷ 10 ∷ []) ≡ stop 2
unfolding answer
r9 = refl

-- `[1]␠␠#␠c⏎`
r10 : answer (91 ∷ 49 ∷ 93 ∷ 32 ∷ 32 ∷ 35 ∷ 32 ∷ 99 ∷ 10 ∷ []) ≡ stop 3
unfolding answer
r10 = refl

-- `a:␠1␠#`
r11 : answer (97 ∷ 58 ∷ 32 ∷ 49 ∷ 32 ∷ 35 ∷ []) ≡ stop 5
unfolding answer
r11 = refl

-- `a: 1⏎⏎b: 2⏎`: no blank line but behind a block string
r12 : answer (97 ∷ 58 ∷ 32 ∷ 49 ∷ 10 ∷ 10 ∷ 98 ∷ 58 ∷ 32 ∷ 50 ∷ 10 ∷ []) ≡ stop 6
unfolding answer
r12 = refl

-- NESTED CONTENT AND ITEMS
-- `a:⏎␠␠1⏎`: `1` could be a key
r13 : answer (97 ∷ 58 ∷ 10 ∷ 32 ∷ 32 ∷ 49 ∷ 10 ∷ []) ≡ stop 6
unfolding answer
r13 = refl

-- `a:⏎␠␠[`
r14 : answer (97 ∷ 58 ∷ 10 ∷ 32 ∷ 32 ∷ 91 ∷ []) ≡ stop 5
unfolding answer
r14 = refl

-- `a:⏎␠␠"b"⏎`: a second line is wanted, and may come
r15 : answer (97 ∷ 58 ∷ 10 ∷ 32 ∷ 32 ∷ 34 ∷ 98 ∷ 34 ∷ 10 ∷ []) ≡ stop 9
unfolding answer
r15 = refl

-- `a:⏎␠␠"b"⏎␠␠"c": 1⏎`: the strings go on, and no object
r16 : answer (97 ∷ 58 ∷ 10 ∷ 32 ∷ 32 ∷ 34 ∷ 98 ∷ 34 ∷ 10 ∷ 32 ∷ 32 ∷ 34 ∷ 99 ∷ 34 ∷ 58 ∷ 32 ∷ 49 ∷ 10 ∷ []) ≡ stop 14
unfolding answer
r16 = refl

-- `-␠-␠1⏎␠␠-␠2⏎`: a nested bullet has one element
r17 : answer (45 ∷ 32 ∷ 45 ∷ 32 ∷ 49 ∷ 10 ∷ 32 ∷ 32 ∷ 45 ∷ 32 ∷ 50 ∷ 10 ∷ []) ≡ stop 6
unfolding answer
r17 = refl

-- `-␠G⏎␠␠x⏎`: no deeper than the content
r18 : answer (45 ∷ 32 ∷ 96 ∷ 10 ∷ 32 ∷ 32 ∷ 120 ∷ 10 ∷ []) ≡ stop 6
unfolding answer
r18 = refl

-- `a: 1⏎␠b: 2⏎`: a column that none has
r19 : answer (97 ∷ 58 ∷ 32 ∷ 49 ∷ 10 ∷ 32 ∷ 98 ∷ 58 ∷ 32 ∷ 50 ∷ 10 ∷ []) ≡ stop 5
unfolding answer
r19 = refl

-- THE LIMIT: behind 32 times `-␠`
-- `-␠5`
d1 : answer (dashes 32 (45 ∷ 32 ∷ 53 ∷ [])) ≡ stop 65
unfolding answer
d1 = refl

-- `-5:␠1`
d2 : answer (dashes 32 (45 ∷ 53 ∷ 58 ∷ 32 ∷ 49 ∷ [])) ≡ stop 66
unfolding answer
d2 = refl

-- `nul:␠1`
d3 : answer (dashes 32 (110 ∷ 117 ∷ 108 ∷ 58 ∷ 32 ∷ 49 ∷ [])) ≡ stop 67
unfolding answer
d3 = refl

-- `"a":␠1`
d4 : answer (dashes 32 (34 ∷ 97 ∷ 34 ∷ 58 ∷ 32 ∷ 49 ∷ [])) ≡ stop 67
unfolding answer
d4 = refl

-- `a␠1`
d5 : answer (dashes 32 (97 ∷ 32 ∷ 49 ∷ [])) ≡ stop 64
unfolding answer
d5 = refl

-- `null␠1`
d6 : answer (dashes 32 (110 ∷ 117 ∷ 108 ∷ 108 ∷ 32 ∷ 49 ∷ [])) ≡ stop 69
unfolding answer
d6 = refl

-- `)`
d7 : answer (dashes 32 (41 ∷ [])) ≡ stop 64
unfolding answer
d7 = refl
