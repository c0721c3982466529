-- Pieces, comments and line comments: laws as `search` takes them. Assumes nothing.
use mathlib.Core.Path.{◌≡◌, refl, sym, ap, subst, ◌∙◌}
use mathlib.Core.List.{List}
use mathlib.Core.Bool.{Bool, true, false, ◌&&◌}
use Prim.Native.Nat.{ℕ, zero, suc, ◌+◌, ◌-◌, ◌≤◌, ◌<◌, max}
use native.Mathlib.Omega.{arith}
use native.Mathlib.Decide.{dec_le}
use lib.ListN.{length, drop, get_or, drop_of_length-le}
use lib.Dec.{leb}
use borrow.Author.Rules.{rules}
use borrow.Author.Tests.{leb-true}
use Rattle.exact.specs.Class.{clash, only, only_no, only_yes}
use Rattle.exact.specs.Out.{bad}
use Rattle.exact.specs.Place.{peek, run_end, run_over, run_none, run_more, get_d_any}
use Rattle.language.specs.Characters.{dark}
use Rattle.utf8.specs.Utf8.{char_r}
use Rattle.characters.specs.declared.Reading.{Reading}
use Rattle.characters.specs.Reads.{Took}
use Rattle.std.specs.declared.option.Option.TheVariants.{None, Some}
use Rattle.characters.specs.Reads.{Skip}
use Rattle.std.specs.declared.result.Result.TheVariants.{Err, Ok}
use Rattle.characters.specs.Comments.{piece_r, pieces_r}
use Rattle.characters.specs.Reads.{ByteRead, byte_inside, byte_there, byte_next, byte_past, Stands, WideAt, Ends, Skips, ends_of, bad_of}
use Rattle.characters.specs.Runs.{Dried, Fed}
use Rattle.characters.specs.Going.{low_stands}
use Rattle.characters.specs.Pieces.{dark_below, dark_among, dark_delete, dark_above, piece_bad, piece_light, piece_ends, piece_ahead, Along, along_first, Smooth, smooth_none, smooth_more, Printable, Block, pieces_over, pieces_end, pieces_bad}
use Rattle.characters.specs.Marks.{comment_absent, comment_on, comment_inside, line_absent, line_half, line_on, option_absent, option_on}

-- ---- a run of one byte

module _ (doc : List ℕ) (at b : ℕ) where
  pub same_over : length doc ≤ at → at ≡ run_end (only b) doc at
  same_over l = sym (run_over (only b) doc at l)

  pub same_none : b < 256 → at < length doc → (get_or doc at 0 ≡ b → ⊥) → at ≡ run_end (only b) doc at
  same_none s l n = sym (run_none (only b) doc at (only_no b 256 (λ e. omega arith)) (only_no b (peek doc at) (λ e. n (get_d_any doc at 0 256 l ∙ e))))

  same_more : at < length doc → get_or doc at 0 ≡ b → run_end (only b) doc at ≡ run_end (only b) doc (at + 1)
  same_more l e = run_more (only b) doc at l (only_yes b (peek doc at) (sym (get_d_any doc at 0 256 l) ∙ e))

pub same_end : (doc : List ℕ) (at i b : ℕ) → run_end (only b) doc at ≡ run_end (only b) doc i → i ≡ run_end (only b) doc i → i ≡ run_end (only b) doc at
same_end doc at i b h e = e ∙ sym h

pub end_on : (doc : List ℕ) (at i b : ℕ) → run_end (only b) doc at ≡ run_end (only b) doc i → i < length doc → get_or doc i 0 ≡ b
    → run_end (only b) doc at ≡ run_end (only b) doc (i + 1)
end_on doc at i b h l e = h ∙ same_more doc i b l e

pub same_whole : (doc : List ℕ) (at i b : ℕ) → run_end (only b) doc at ≡ run_end (only b) doc i → length doc ≤ i → i ≡ max at (length doc) → max at (length doc) ≡ run_end (only b) doc at
same_whole doc at i b h l e = sym e ∙ same_end doc at i b h (same_over doc i b l)

pub ruleset running = (same_over, same_whole, same_none, same_end, end_on, rules)

-- ---- no LF, up to e so far

module _ (doc : List ℕ) (at : ℕ) where
  pub dried_first : at ≤ length doc → Dried doc at at
  dried_first h = record { from = omega arith; inside = h; dry = λ j l k z. omega arith }

  module _ (e : ℕ) (i : Dried doc at e) where
    pub dried_on : e < length doc → (get_or doc e 0 ≡ 10 → ⊥) → Dried doc at (e + 1)
    dried_on l h = record { from = let x = i.from in omega arith; inside = omega arith; dry = λ j m k z. by j m z (dec_le (suc j) e) k }
      where
        by : (j : ℕ) → at ≤ j → peek doc j ≡ 10 → Dec (suc j ≤ e) → j < e + 1 → ⊥
        by j m z (yes k) q = i.dry j m k z
        by j m z (no k) q = let y : j ≡ e = omega arith in h (get_d_any doc e 0 256 l ∙ (ap (peek doc) (sym y) ∙ z))

    pub fed_over : length doc ≤ e → Fed doc at e
    fed_over l = record { dried = i; feed = λ k. absurd (omega arith) }

    pub fed_whole : length doc ≤ e → Fed doc at (length doc)
    fed_whole l = let z : e ≡ length doc = omega (arith, i.inside) in subst (Fed doc at) z (fed_over l)

    pub fed_here : e < length doc → get_or doc e 0 ≡ 10 → Fed doc at e
    fed_here l h = record { dried = i; feed = λ k. get_d_any doc e 256 0 l ∙ h }

pub ruleset feeding = (dried_first, dried_on, fed_whole, fed_here, rules)

-- ---- a piece

module _ (doc : List ℕ) (at j : ℕ) (e : j ≡ run_end (only 32) doc at) where
  module _ (t : Took) (h : ByteRead doc j t) where
    pub piece_over : t ≡ None → Skips doc at (piece_r at (drop at doc)) (Err j)
    unfolding Skips
    piece_over z = piece_bad doc at j e j (ap (char_r dark j) (drop_of_length-le doc (byte_past doc j t h z)))

    module _ (b : ℕ) (n : Reading) (z : t ≡ Some (b, n)) where
      stands : b < 128 → Stands doc j b (j + 1)
      stands k =
          let i = byte_inside doc j t h b n z in
          low_stands doc j b i (byte_there doc j t h b n z ∙ sym (get_d_any doc j 0 256 i)) k

      pub piece_dark : 33 ≤ b → b < 127 → Skips doc at (piece_r at (drop at doc)) (Ok n.at)
      unfolding Skips
      piece_dark l k = rw (byte_next doc j t h b n z) (piece_ends doc at j e b (j + 1) (stands (omega arith)) (dark_among b l k))

      pub piece_low : b < 33 → Skips doc at (piece_r at (drop at doc)) (Err j)
      unfolding Skips
      piece_low k = piece_light doc at j e b (j + 1) (stands (omega arith)) (dark_below b k)

      pub piece_delete : 127 ≤ b → b < 128 → Skips doc at (piece_r at (drop at doc)) (Err j)
      unfolding Skips
      piece_delete k l = piece_light doc at j e b (j + 1) (stands l) (dark_delete b (omega arith))

      pub wide_there : 128 ≤ b → 128 ≤ get_or doc j 0
      wide_there high = let i = byte_inside doc j t h b n z in subst (128 ≤◌) (byte_there doc j t h b n z ∙ sym (get_d_any doc j 0 256 i)) high

  -- a character of several bytes is none that is light
  pub piece_wide : (r : Skip) → WideAt doc j r → Skips doc at (piece_r at (drop at doc)) r
  unfolding Skips WideAt
  piece_wide (Ok n) w =
      let h = w.high in
      piece_ends doc at j e w.value n w.stands (dark_above w.value w.stands.allowed (omega arith) (λ z. omega arith))
  piece_wide (Err p) w = piece_bad doc at j e p (w dark)

pub ruleset piecing = (piece_over, piece_dark, piece_low, piece_delete, byte_inside, wide_there, piece_wide, rules)

-- ---- printable bytes

pub smooth_dark : (doc : List ℕ) (at k i : ℕ) → Smooth doc at k → run_end (only 32) doc k ≡ run_end (only 32) doc i → k ≤ i → i < length doc
    → 32 ≤ get_or doc i 0 → get_or doc i 0 ≤ 126 → (get_or doc i 0 ≡ 32 → ⊥) → Smooth doc at (i + 1)
smooth_dark doc at k i s h b l x y n =
    smooth_more doc at k (i + 1) s (omega arith)
    (piece_ends doc k i (same_none doc i 32 (omega arith) l n ∙ sym h) (get_or doc i 0) (i + 1) (low_stands doc i (get_or doc i 0) l refl (omega arith))
    (dark_among (get_or doc i 0) (let z : get_or doc i 0 ≡ 32 → ⊥ = n in omega arith) (omega arith)))

-- on the way over printable bytes: the pieces up to `last` are read, and there are spaces up to i
record Way (doc : List ℕ) (at i : ℕ) : Type 0 where
  last : ℕ
  smooth : Smooth doc at last
  spaces : run_end (only 32) doc last ≡ run_end (only 32) doc i
  behind : last ≤ i

way_more : (doc : List ℕ) (at i : ℕ) → Way doc at i → i < length doc → (32 ≤ get_or doc i 0) × (get_or doc i 0 ≤ 126) → Way doc at (i + 1)
way_more doc at i w l p = by (dec_le (get_or doc i 0) 32)
  where
    by : Dec (get_or doc i 0 ≤ 32) → Way doc at (i + 1)
    by (yes x) =
        record { last = w.last; smooth = w.smooth; spaces = w.spaces ∙ same_more doc i 32 l (omega arith); behind = omega (arith, w.behind) }
    by (no x) =
        record {
          last = i + 1;
          smooth = smooth_dark doc at w.last i w.smooth w.spaces w.behind l p.0 p.1 (λ e. omega arith);
          spaces = refl;
          behind = omega arith;
        }

ways : (doc : List ℕ) (at i n : ℕ) → Smooth doc at i → i + n ≤ length doc → Printable doc i (i + n) → Way doc at (i + n)
unfolding Printable
ways doc at i zero s l p =
    let z : i ≡ i + 0 = omega arith in
    subst (Way doc at) z (record { last = i; smooth = s; spaces = refl; behind = omega arith })
ways doc at i (suc n) s l p =
    let z : i + n + 1 ≡ i + suc n = omega arith in
    subst (Way doc at) z
    (way_more doc at (i + n) (ways doc at i n s (omega arith) (λ k x y. p k x (omega arith))) (omega arith) (p (i + n) (omega arith) (omega arith)))

block_smooth : (doc : List ℕ) (at i : ℕ) → Smooth doc at i → i + 64 ≤ length doc → Block doc i → Smooth doc at (i + 64)
unfolding Printable
block_smooth doc at i s l b =
    let w = ways doc at i 63 s (omega arith) (λ k x y. b.bytes k x (omega arith)) in
    let p = b.bytes (i + 63) (omega arith) (omega arith) in
    let z : i + 63 + 1 ≡ i + 64 = omega arith in
    subst (Smooth doc at) z (smooth_dark doc at w.last (i + 63) w.smooth w.spaces w.behind (omega arith) p.0 p.1 b.dark)

pub block_on : (doc : List ℕ) (at i : ℕ) (r : Bool) → (r ≡ true → Block doc i) → r ≡ true → Smooth doc at i → 64 ≤ length doc - i → Smooth doc at (i + 64)
block_on doc at i r f t s l = block_smooth doc at i s (omega arith) (f t)

-- bytes tested without an exit
pub no_block : (doc : List ℕ) (at : ℕ) → false ≡ true → Block doc at
no_block doc at e = absurd (clash e refl)

pub printed_none : (doc : List ℕ) (at : ℕ) → true ≡ true → Printable doc at (at + 0)
unfolding Printable
printed_none doc at e k x y = absurd (omega arith)

split : (x y : Bool) → x && y ≡ true → (x ≡ true) × (y ≡ true)
split true y e = (refl, e)
split false y e = absurd (clash e refl)

pub printed_more : (doc : List ℕ) (at i : ℕ) (a : Bool) → (a ≡ true → Printable doc at (at + i)) → a && leb 32 (get_or doc (at + i) 0) && leb (get_or doc (at + i) 0) 126 ≡ true → Printable doc at (at + (i + 1))
unfolding Printable
printed_more doc at i a f e k x y = by (dec_le k (at + i))
  where
    b : ℕ
    b = get_or doc (at + i) 0

    parts : (a ≡ true) × (32 ≤ b) × (b ≤ 126)
    parts =
        let u = split (a && leb 32 b) (leb b 126) e in
        let v = split a (leb 32 b) u.0 in
        (v.0, leb-true 32 b v.1, leb-true b 126 u.1)

    by : Dec (k ≤ at + i) → (32 ≤ get_or doc k 0) × (get_or doc k 0 ≤ 126)
    by (yes h) = here (dec_le (at + i) k)
      where
        here : Dec (at + i ≤ k) → (32 ≤ get_or doc k 0) × (get_or doc k 0 ≤ 126)
        here (yes g) = let z : at + i ≡ k = omega arith in subst (λ n. (32 ≤ get_or doc n 0) × (get_or doc n 0 ≤ 126)) z (parts.1, parts.2)
        here (no g) = f parts.0 k x (omega arith)
    by (no h) = absurd (omega arith)

pub printed_all : (doc : List ℕ) (at i : ℕ) (a : Bool) → (a ≡ true → Printable doc at (at + i)) → i ≤ 64 → 64 ≤ i → (get_or doc (at + 63) 0 ≡ 32 → ⊥) → a ≡ true → Block doc at
printed_all doc at i a f l h d e =
    let z : i ≡ 64 = omega arith in
    record { bytes = subst (λ n. Printable doc at (at + n)) z (f e); dark = d }

pub ruleset printing = (no_block, printed_none, printed_more, printed_all, rules)

pub ruleset smoothly = (smooth_none, smooth_dark, block_on, end_on, rules)

-- ---- the pieces: behind blocks, and what is smooth, those up to i

smooth_then : (doc : List ℕ) (i m n : ℕ) → Smooth doc i m → Smooth doc m n → Smooth doc i n
smooth_then doc i m n s t = record { behind = omega (arith, s.behind, t.behind); inside = t.inside; on = λ at a. t.on at (s.on at a) }

module _ (doc : List ℕ) (at far first i : ℕ) (s : Smooth doc at far) (t : Smooth doc far first) (u : Smooth doc first i) where
  along : Along doc at i
  along = u.on at (t.on at (s.on at (along_first doc at)))

  pub lines_over : length doc ≤ i → Skips doc at (pieces_r at (drop at doc)) (Ok i)
  unfolding Skips
  lines_over h = pieces_over doc at i along u.inside h

  module _ (l : i < length doc) (r : Skip) (h : Skips doc i (piece_r i (drop i doc)) r) where
    pub lines_end : (p : ℕ) → r ≡ Err p → p ≡ i → Skips doc at (pieces_r at (drop at doc)) (Ok p)
    unfolding Skips
    lines_end p e k = rw k (pieces_end doc at i along l (bad_of doc i (piece_r i (drop i doc)) r p e h ∙ ap bad k))

    pub lines_bad : (p : ℕ) → r ≡ Err p → (p ≡ i → ⊥) → Skips doc at (pieces_r at (drop at doc)) (Err p)
    unfolding Skips
    lines_bad p e n = pieces_bad doc at i along l p (bad_of doc i (piece_r i (drop i doc)) r p e h) n

module _ (doc : List ℕ) (i : ℕ) (r : Skip) (h : Skips doc i (piece_r i (drop i doc)) r) (n : ℕ) (e : r ≡ Ok n) where
  one_piece : Ends doc i (piece_r i (drop i doc)) n
  one_piece = ends_of doc i (piece_r i (drop i doc)) r n e h

  pub lines_in : n ≤ length doc
  lines_in = one_piece.inside

  module _ (l : i < length doc) (m : ℕ) (s : Smooth doc n m) where
    pub lines_on : (first : ℕ) → Smooth doc first i → Smooth doc first m
    lines_on first u = smooth_then doc first n m (smooth_more doc first i n u l one_piece) s

    pub lines_less : length doc - m < length doc - i
    lines_less = let g = piece_ahead doc i n one_piece in omega (arith, s.behind, s.inside)

pub lines_first : (doc : List ℕ) (at i : ℕ) → Smooth doc at i → Smooth doc i i
lines_first doc at i s = smooth_none doc i s.inside

pub ruleset lines = (lines_over, lines_end, lines_bad, lines_on, lines_in, lines_less, lines_first, rules)

-- ---- comments

pub ruleset commenting = (comment_absent, comment_on, comment_inside, line_absent, line_half, line_on, option_absent, option_on, rules)
