-- HEX LINES are read exactly: pairs with an optional line comment, or a comment, up to the LF; and as many of them as there are, deeper than a column.
use Rattle.std.specs.Prelude.{◌≡◌, refl, List, [], ◌∷◌, ◌++◌, ◌⊎◌, true, ℕ}
use Rattle.std.proofs.Common.{inl, inr, arith}
use Rattle.notation.specs.Lang.{Lang, Seq, ◌>>=◌, ◌>>◌, Alt, one, two, Star, Ret, ret, Byte, byte}
use Rattle.language.specs.Characters.{Comment, Option, LineComment}
use Rattle.language.specs.Strings.{lowhex, Pairs}
use Rattle.language.specs.BlockText.{Part, part, HexRest, HexLine}
use Rattle.exact.specs.Class.{Starts, Class, clash, and, is, only, and_of, or_of, none, inside, nothing, starts_none}
use Rattle.exact.specs.Out.{Reader}
use Rattle.exact.specs.Lang.{bar, None, Exact, within_bar, within_same, weaken, ret_r}
use Rattle.exact.specs.Comb.{seq_r, seq_exact, alt_r, alt_exact}
use Rattle.exact.specs.Ll.{Shape, Ll, ret_ll, seq_ll, relax}
use Rattle.exact.specs.Block.{many_g, lead}
use Rattle.language.specs.Tree.{unescaped}
use Rattle.characters.specs.Comments.{piece_s, comment_r, comment_s, comment_ll, optional_comment_r, optional_comment_ll}
use Rattle.strings.specs.Bytes.{PairsOn, digit_next, pairs_r, pairs_exact}
use Rattle.blocktext.specs.Follow.{beyond}
use Rattle.blocktext.specs.Opens.{Opens, byte_opens, seq_opens, alt_opens, ll_opens}
use Rattle.blocktext.specs.LineEnd.{line_end_r, line_end_ll}
use Rattle.blocktext.specs.Deeper.{deeper, deeper_r, deeper_exact, deepers_exact}

-- PAIRS with an optional line comment
abbrev pub Commented : Lang (List ℕ)
Commented = do ps ← Pairs; Option LineComment; Ret ps

unfoldable pub commented_r : Reader (List ℕ)
commented_r = seq_r pairs_r λ ps. seq_r optional_comment_r λ _. ret_r ps

-- pairs go on with what may not follow a comment either
on_piece : (t : List ℕ) → PairsOn t → Starts (is piece_s.first) t
on_piece [] e = absurd (clash e refl)
on_piece (b ∷ t) e = by (or_of (is lowhex b) (and (is (only 32) b) (digit_next t)) e)
  where
    by : (is lowhex b ≡ true) ⊎ (and (is (only 32) b) (digit_next t) ≡ true) → is piece_s.first b ≡ true
    by (inl x) = inside lowhex piece_s.first b refl x
    by (inr x) = inside (only 32) piece_s.first b refl (and_of (is (only 32) b) (digit_next t) x).0

-- and not with two spaces
two_spaces : {at a a' : ℕ} {s t t' : List ℕ} {v v' : ℕ} → Byte (is (only 32)) at s v a t → Byte (is (only 32)) a t v' a' t' → PairsOn s → ⊥
two_spaces (byte {b = b} x) (byte {b = c} y) e = by (or_of (is lowhex b) (and (is (only 32) b) (is lowhex c)) e)
  where
    by : (is lowhex b ≡ true) ⊎ (and (is (only 32) b) (is lowhex c) ≡ true) → ⊥
    by (inl z) = none lowhex (only 32) b refl z x
    by (inr z) = none lowhex (only 32) c refl (and_of (is (only 32) b) (is lowhex c) z).1 y

off : {at : ℕ} {s w : List ℕ} {a : ℕ} {r ps v : List ℕ} {at' : ℕ} {t : List ℕ} → Option LineComment at s w a r → Ret ps a r v at' t
    → (Starts (is piece_s.first) t → ⊥) → PairsOn s → ⊥
off (one y) z g e = two_spaces y.first.first y.first.second.first e
off {s = s} (two ret) ret g e = g (on_piece s e)

-- the comment, and then no more
abbrev behind_s : Shape
behind_s = record { null = true; first = only 32; follow = piece_s.first }

behind_ll : (ps : List ℕ) → Ll behind_s (Seq (Option LineComment) (λ _. Ret ps)) (seq_r optional_comment_r λ _. ret_r ps)
behind_ll ps = relax behind_s refl refl refl (seq_ll refl optional_comment_ll λ _. ret_ll ps)

commented_exact : Exact 1 Commented (bar (Starts (is piece_s.first))) commented_r
unfolding commented_r
commented_exact = weaken 1 _ (omega arith) (within_same _) (seq_exact pairs_exact (λ ps. (behind_ll ps).exact) (λ ps at s v at' t x. off x.first x.second))

-- OR A COMMENT
abbrev pub Bare : Lang (List ℕ)
Bare = do Comment; Ret []

abbrev pub Content : Lang (List ℕ)
Content = Alt Commented Bare

unfoldable pub content_r : Reader (List ℕ)
content_r = alt_r (is lowhex) commented_r (seq_r comment_r λ _. ret_r [])

bare_ll : Ll comment_s Bare (seq_r comment_r λ _. ret_r [])
bare_ll = relax comment_s refl refl refl (seq_ll refl comment_ll λ _. ret_ll [])

commented_opens : Opens lowhex Commented
commented_opens = seq_opens (seq_opens (seq_opens (byte_opens lowhex)))

content_exact : Exact 1 Content (bar (Starts (is piece_s.first))) content_r
unfolding content_r
content_exact =
    alt_exact
    (is lowhex)
    commented_opens.opens
    (λ at s v at' t x g z. starts_none (only 35) lowhex s refl ((ll_opens refl bare_ll).opens at s v at' t x) z)
    commented_exact
    bare_ll.exact

-- A HEX LINE, behind its spaces
abbrev pub hex_first : Class
hex_first = lowhex ++ only 35

unfoldable pub hex_rest_r : Reader Part
hex_rest_r = seq_r content_r λ bs. line_end_r (part (unescaped bs))

pub hex_rest_opens : Opens hex_first HexRest
hex_rest_opens = seq_opens (alt_opens commented_opens (ll_opens refl bare_ll))

pub hex_rest_exact : Exact 1 HexRest None hex_rest_r
unfolding hex_rest_r
hex_rest_exact =
    weaken
    1
    None
    (omega arith)
    (within_same None)
    (seq_exact
    content_exact
    (λ bs. weaken 1 None (omega arith) (within_bar _ None nothing) (line_end_ll (part (unescaped bs))).exact)
    (λ bs at s y at' t b g z. starts_none (only 10) piece_s.first s refl ((ll_opens refl (line_end_ll (part (unescaped bs)))).opens at s y at' t b) z))

-- DEEPER THAN A COLUMN
abbrev pub hex_line_r : ℕ → Reader Part
hex_line_r c = deeper_r c λ _. hex_rest_r

pub hex_line_exact : (c : ℕ) → Exact 1 (HexLine c) None (hex_line_r c)
hex_line_exact c = deeper_exact hex_first refl (λ _. hex_rest_opens) (λ _. hex_rest_exact) c

unfoldable pub hex_lines_r : ℕ → Reader (List Part)
hex_lines_r c = many_g (deeper c) (lead c) (hex_line_r c)

pub hex_lines_exact : (c : ℕ) → Exact 0 (Star (HexLine c)) (beyond c) (hex_lines_r c)
unfolding hex_lines_r
hex_lines_exact c = deepers_exact hex_first refl (λ _. hex_rest_opens) (λ _. hex_rest_exact) (part (unescaped []) 0) c
