-- THE BORDERS P1 TO P12 of document 01, as one table under one statement: what every reader that meets the promise answers. Computed by the exact readers.
use Rattle.std.specs.Prelude.{◌≡◌, refl, List, [], ◌∷◌, ◌++◌, ℕ, zero, suc, ◌*◌, ◌≤◌, length, drop, ℤ, pos, neg_ℤ}
use Rattle.std.proofs.Common.{subst, arith}
use Rattle.std.specs.Int.Signed.{lt_z}
use Rattle.language.specs.Kind.{INTEGER, ARRAY, OBJECT, KEY}
use Rattle.language.specs.Tree.{unescaped, Tree, leaf, node, none, more, width, size, sizes, text_of, texts_of, rows_of, rowss, Repeats, inside, again, has_here, has_later}
use Rattle.language.specs.Document.{Document}
use Rattle.language.specs.Lines.{line_of, column_of, feeds, characters, last_line}
use Rattle.language.specs.Answered.{limit, deepest, SYNTAX, END, REPEAT, Stops, Answered, accepted, stopped, repeated}
use Rattle.utf8.specs.Told.{Answer as Judgement, given, refused_syntax, refused_end}
use Rattle.language.specs.Scalars.{plain, minus}
use Rattle.language.specs.Strings.{hex_number}
use Rattle.language.specs.BlockText.{body_text, body_end}
use Rattle.numbers.specs.Digits.{more_r, digits_r}
use Rattle.numbers.specs.Plain.{exponent_r, fraction_r, dotted_r, after_r, unsigned_r, nan_r, signed_r, body_r, plain_r}
use Rattle.strings.specs.Bytes.{pair_r, further_r, inside_r, angled_r, inline_bytes_r, pairs_r}
use Rattle.strings.specs.Keys.{bare_r, name_r, key_r}
use Rattle.strings.specs.Quoted.{escape_r, single_escape_r, between_r, quoted_r, string_r}
use Rattle.strings.specs.Spans.{spanned_r}
use Rattle.inline.specs.Lists.{listed_r, inline_array_r, inline_pair_r, inline_object_r}
use Rattle.inline.specs.Values.{quotes_r, scalar_r, container_r, value_r}
use Rattle.blocktext.specs.TextLines.{text_line_r, body_line_r, body_r as textBodyR}
use Rattle.blocktext.specs.BlockStrings.{leader_text_r, open_string_r, property_string_r}
use Rattle.blocktext.specs.HexLines.{commented_r, content_r, hex_rest_r, hex_lines_r}
use Rattle.blocktext.specs.BlockBytes.{open_bytes_r, leader_comment_r, property_bytes_r}
use Rattle.blocktext.specs.Joined.{joined_line_r, joined_r}
use Rattle.blocks.specs.Or.{or_r}
use Rattle.blocks.specs.Lines.{lines_r}
use Rattle.blocks.specs.Rest.{rest_r}
use Rattle.blocks.specs.ValueLine.{line_r}
use Rattle.blocks.specs.Property.{on_r, property_r, object_r}
use Rattle.blocks.specs.Array.{dashed_r, array_r, bullet_r}
use Rattle.blocks.specs.Lead.{lead_r}
use Rattle.blocks.specs.Openers.{opener_r, nested_line_r}
use Rattle.blocks.specs.Nested.{nested_here_r, item_r}
use Rattle.blocks.specs.Root.{root_r}
use Rattle.blocks.specs.Document.{head_r, whole_r, verdict}
use Rattle.blocks.specs.Judged.{judge, Judged}
use Rattle.blocks.proofs.JudgedLaws.{judged}
use Rattle.repeats.specs.Flat.{named, flat, flats, Twice, twice_here, twice_later, In, in_here, in_later}
use Rattle.repeats.specs.Repeating.{repeats_twice}
use Rattle.integers.specs.Integer.{is_integer, integer, natural, counting, digits, digit, empty}
use Rattle.integers.specs.Order.{Verdict, compared, order_of}

-- a border: a document that is refused with a number and a place; one that gives rows and a text; two integer texts that compare
pub data Border : Type 0 where
  refuses : List ℕ → ℕ → ℕ → Border
  gives : List ℕ → ℕ → List ℕ → List ℕ → Border
  compares : List ℕ → List ℕ → ℤ → Border

-- what it says, whatever rooms are lent: a refusal leaves them as they came, and what is given stands in rooms that are large enough
abbrev pub Says : Border → Type 0
Says (refuses doc n p) = (table text : List ℕ) → Answered doc table text n p 0 table text
Says (gives doc n rows bytes) =
    (table text : List ℕ) → width * n ≤ length table → length bytes ≤ length text
    → Answered doc table text 0 n (length bytes) (rows ++ drop (width * n) table) (bytes ++ drop (length bytes) text)
Says (compares left right v) = compared left right ≡ record { number = 0; value = v }

abbrev pub All : List Border → Type 0
All [] = Unit {0}
All (b ∷ bs) = Says b × All bs

-- THE TABLE
abbrev pub table : List Border
table =
    -- P1: nothing
    refuses [] END 0
    -- P2: `1` without LF
    ∷ refuses (49 ∷ []) END 1
    -- P3: `[1, 22]⏎`
    ∷ gives (91 ∷ 49 ∷ 44 ∷ 32 ∷ 50 ∷ 50 ∷ 93 ∷ 10 ∷ []) 3
    (8 ∷ 0 ∷ 7 ∷ 0 ∷ 2 ∷ 0 ∷ 3 ∷ 1 ∷ 1 ∷ 4 ∷ 1 ∷ 2 ∷ 0 ∷ 1 ∷ 0 ∷ 2 ∷ 1 ∷ 2 ∷ 4 ∷ 4 ∷ 6 ∷ 1 ∷ 3 ∷ 0 ∷ 3 ∷ 1 ∷ 5 ∷ [])
    (49 ∷ 50 ∷ 50 ∷ [])
    -- P4: `[1,2]⏎`
    ∷ refuses (91 ∷ 49 ∷ 44 ∷ 50 ∷ 93 ∷ 10 ∷ []) SYNTAX 3
    -- P5: `a: 1 ⏎`
    ∷ refuses (97 ∷ 58 ∷ 32 ∷ 49 ∷ 32 ∷ 10 ∷ []) SYNTAX 5
    -- P6: `nulls⏎`
    ∷ refuses (110 ∷ 117 ∷ 108 ∷ 108 ∷ 115 ∷ 10 ∷ []) SYNTAX 5
    -- P7: `a: nulls⏎`
    ∷ refuses (97 ∷ 58 ∷ 32 ∷ 110 ∷ 117 ∷ 108 ∷ 108 ∷ 115 ∷ 10 ∷ []) SYNTAX 7
    -- P8: `"\u{D800}"⏎`
    ∷ refuses (34 ∷ 92 ∷ 117 ∷ 123 ∷ 68 ∷ 56 ∷ 48 ∷ 48 ∷ 125 ∷ 34 ∷ 10 ∷ []) SYNTAX 8
    -- P9: `"\u{110000}"⏎`
    ∷ refuses (34 ∷ 92 ∷ 117 ∷ 123 ∷ 49 ∷ 49 ∷ 48 ∷ 48 ∷ 48 ∷ 48 ∷ 125 ∷ 34 ∷ 10 ∷ []) SYNTAX 9
    -- P10: `a: 1⏎a: 2⏎`
    ∷ refuses (97 ∷ 58 ∷ 32 ∷ 49 ∷ 10 ∷ 97 ∷ 58 ∷ 32 ∷ 50 ∷ 10 ∷ []) REPEAT 5
    -- P11: `k:⏎j: 1⏎`
    ∷ refuses (107 ∷ 58 ∷ 10 ∷ 106 ∷ 58 ∷ 32 ∷ 49 ∷ 10 ∷ []) SYNTAX 3
    -- P12: `10` against `9`
    ∷ compares (49 ∷ 48 ∷ []) (57 ∷ []) (pos 1)
    ∷ []

-- the judgement of a document, computed
unfoldable pub reading : List ℕ → Judgement Tree
unfolding plain minus hex_number body_text body_end more_r digits_r exponent_r fraction_r dotted_r after_r unsigned_r nan_r signed_r body_r plain_r pair_r further_r inside_r angled_r inline_bytes_r pairs_r bare_r name_r key_r escape_r single_escape_r between_r quoted_r string_r spanned_r listed_r inline_array_r inline_pair_r inline_object_r quotes_r scalar_r container_r value_r text_line_r body_line_r textBodyR leader_text_r open_string_r property_string_r commented_r content_r hex_rest_r hex_lines_r open_bytes_r leader_comment_r property_bytes_r joined_line_r joined_r or_r lines_r rest_r line_r on_r property_r object_r dashed_r array_r bullet_r lead_r opener_r nested_line_r nested_here_r item_r root_r head_r whole_r verdict judge
reading s = judge s

pub at_syntax : (doc : List ℕ) (p : ℕ) → length doc ≤ limit → reading doc ≡ refused_syntax p → Says (refuses doc SYNTAX p)
unfolding reading
at_syntax doc p l e table text = stopped SYNTAX p l (subst (Judged doc) e (judged doc))

pub at_end : (doc : List ℕ) (p : ℕ) → length doc ≤ limit → reading doc ≡ refused_end p → Says (refuses doc END p)
unfolding reading
at_end doc p l e table text = stopped END p l (subst (Judged doc) e (judged doc))

pub has_tree : (doc : List ℕ) (t : Tree) → reading doc ≡ given t → Document deepest doc t
unfolding reading
has_tree doc t e = subst (Judged doc) e (judged doc)

tree₃ : Tree
tree₃ = node ARRAY 0 7 2 (more (leaf INTEGER 1 2 (unescaped (49 ∷ []))) (more (leaf INTEGER 4 6 (unescaped (50 ∷ 50 ∷ []))) none))

tree₁₀ : Tree
tree₁₀ = node OBJECT 0 9 2 (more (leaf KEY 0 1 (unescaped (97 ∷ []))) (more (leaf INTEGER 3 4 (unescaped (49 ∷ []))) (more (leaf KEY 5 6 (unescaped (97 ∷ []))) (more (leaf INTEGER 8 9 (unescaped (50 ∷ []))) none))))

-- the keys of P10 are two
in_one : {q a : ℕ} {s : List ℕ} {r b : ℕ} {u : List ℕ} → In q a s (named r b u ∷ []) → a ≡ b
in_one in_here = refl
in_one (in_later x) = elim x [ ]

twice_two : {p q a b r : ℕ} {s u : List ℕ} → Twice p (named q a s ∷ named r b u ∷ []) → p ≡ b
twice_two (twice_here x) = in_one x
twice_two (twice_later (twice_here x)) = elim x [ ]
twice_two (twice_later (twice_later x)) = elim x [ ]

third : Says (gives (91 ∷ 49 ∷ 44 ∷ 32 ∷ 50 ∷ 50 ∷ 93 ∷ 10 ∷ []) 3 (8 ∷ 0 ∷ 7 ∷ 0 ∷ 2 ∷ 0 ∷ 3 ∷ 1 ∷ 1 ∷ 4 ∷ 1 ∷ 2 ∷ 0 ∷ 1 ∷ 0 ∷ 2 ∷ 1 ∷ 2 ∷ 4 ∷ 4 ∷ 6 ∷ 1 ∷ 3 ∷ 0 ∷ 3 ∷ 1 ∷ 5 ∷ []) (49 ∷ 50 ∷ 50 ∷ []))
unfolding reading tree₃ size text_of rows_of flat line_of column_of feeds characters last_line
third table text l m =
    accepted tree₃ (record { short = omega arith; word = has_tree _ tree₃ refl; once = λ p x. none_twice p (repeats_twice 0 0 tree₃ x) }) (omega arith) (omega arith)
  where
    none_twice : (p : ℕ) → Twice p (flat 0 0 tree₃) → ⊥
    none_twice p x = elim x [ ]

tenth : Says (refuses (97 ∷ 58 ∷ 32 ∷ 49 ∷ 10 ∷ 97 ∷ 58 ∷ 32 ∷ 50 ∷ 10 ∷ []) REPEAT 5)
unfolding reading tree₁₀ flat
tenth table text =
    repeated tree₁₀ 5 (omega arith) (has_tree _ tree₁₀ refl) (inside (again (has_later has_here))) (λ q x. least q (repeats_twice 0 0 tree₁₀ x))
  where
    least : (q : ℕ) → Twice q (flat 0 0 tree₁₀) → 5 ≤ q
    least q x = let h = twice_two x in omega arith

twelfth : Says (compares (49 ∷ 48 ∷ []) (57 ∷ []) (pos 1))
unfolding compared is_integer integer natural counting digits digit empty order_of
twelfth = refl

pub borders : All table
unfolding reading
borders = (
  at_end _ 0 (omega arith) refl,
  (
    at_end _ 1 (omega arith) refl,
    (
      third,
      (
        at_syntax _ 3 (omega arith) refl,
        (
          at_syntax _ 5 (omega arith) refl,
          (
            at_syntax _ 5 (omega arith) refl,
            (
              at_syntax _ 7 (omega arith) refl,
              (
                at_syntax _ 8 (omega arith) refl,
                (
                  at_syntax _ 9 (omega arith) refl,
                  (
                    tenth,
                    (
                      at_syntax _ 3 (omega arith) refl,
                      (
                        twelfth,
                        tt,
                      ),
                    ),
                  ),
                ),
              ),
            ),
          ),
        ),
      ),
    ),
  ),
)
