-- The body of a block string, a line at a time: laws as `search` takes them. Assumes nothing.
use mathlib.Core.Path.{◌≡◌, refl, sym, ap, ◌∙◌}
use mathlib.Core.List.{List, [], ◌∷◌, ◌++◌}
use Prim.Native.Nat.{ℕ, suc, ◌+◌, ◌-◌, ◌≤◌, ◌<◌, min}
use native.Mathlib.Omega.{arith}
use lib.ListN.{length, drop}
use lib.Seq.{slice}
use borrow.Author.Rules.{rules}
use Rattle.exact.specs.Class.{is, only}
use Rattle.exact.specs.Out.{Tame, soft}
use Rattle.exact.specs.Lang.{byte_r}
use Rattle.exact.specs.Block.{lead}
use Rattle.exact.specs.Place.{peek, run_end}
use Rattle.language.specs.BlockText.{Line, blank, lower, body_end}
use Rattle.language.specs.Answered.{limit}
use Rattle.rooms.specs.Contract.{columns}
use Rattle.characters.specs.Reads.{Skips}
use Rattle.characters.specs.Takes.{take_next, take_byte, take_other, take_inside}
use Rattle.characters.specs.Reads.{Skip}
use Rattle.std.specs.declared.result.Result.{Result}
use Rattle.std.specs.declared.result.Result.TheVariants.{Err, Ok}
use Rattle.blocktext.specs.declared.body.Seen.{Seen}
use Rattle.blocktext.specs.declared.body.Seen.TheVariants.{Empty, Written, Over}
use Rattle.blocktext.specs.Body.{end_blank}
use Rattle.blocktext.specs.TextLines.{goes_on, body_line_r, body_r, body_line_exact}
use Rattle.blocktext.specs.Going.{Going, going_first, going_over, going_bad, going_on}
use Rattle.blocktext.specs.Placed.{line_at, Placed, over, placed_blank, placed_text, end_text, lower_blank, lower_text}
use Rattle.blocktext.specs.Contract.{Spaced, TextAt, Sees, SeenBlank, SeenText, SeenNone, SeenBad, BodyAt}
use Rattle.blocktext.specs.LineLooks.{sees_blank, sees_none, sees_text, sees_bad}
use Rattle.blocktext.proofs.LineLaws.{spaced_of}

-- ---- one line
module _ (doc : List ℕ) (col a : ℕ) (g : Skip) (t : Skips doc a (byte_r (is (only 10)) a (drop a doc)) g) where
  pub see_empty : (n : ℕ) → g ≡ Ok n → Sees doc col a (Ok (Empty n))
  unfolding Sees
  see_empty n z =
      sees_blank doc col a n (take_next doc a 10 (omega arith) g t n z) (sym (take_byte doc a 10 (omega arith) g t n z)) (take_inside doc a 10 (omega arith) g t n z)

  module _ (p : ℕ) (z : g ≡ Err p) (inside : a ≤ length doc) (s : ℕ) (q : s ≡ run_end (only 32) doc a) where
    dark : peek doc a ≡ 10 → ⊥
    dark = take_other doc a 10 (omega arith) g t p z

    sp : Spaced doc a s
    sp = spaced_of doc a s inside q

    pub see_over : s - a ≤ col → Sees doc col a (Ok (Over s))
    unfolding Sees
    see_over l = sees_none doc col a dark s sp (omega (arith, sp.from))

    pub see_text : (r : Skip) (e : ℕ) → col < s - a → TextAt doc s r → r ≡ Ok e → Sees doc col a (Ok (Written s e))
    unfolding Sees TextAt
    see_text r e l x y = sees_text doc col a dark s sp (omega (arith, sp.from)) e (rw y at x)

    pub see_bad : (r : Skip) (u : ℕ) → col < s - a → TextAt doc s r → r ≡ Err u → Sees doc col a (Err u)
    unfolding Sees TextAt
    see_bad r u l x y = sees_bad doc col a dark s sp (omega (arith, sp.from)) u (rw y at x)

pub see_inside : (doc : List ℕ) (a s : ℕ) → a ≤ length doc → s ≡ run_end (only 32) doc a → s ≤ length doc
see_inside doc a s inside q = (spaced_of doc a s inside q).inside

pub ruleset seeing = (see_empty, see_over, see_text, see_bad, see_inside, rules)

-- ---- the lines, up to a so far
pub record Bodying (doc : List ℕ) (e col a last least : ℕ) : Type 0 where
  pub lines : List Line
  pub going : Going (goes_on col) (lead col) (body_line_r col) doc (e + 1) a lines
  pub placed : Placed doc col (e + 1) lines a
  pub ends : last ≡ body_end e lines
  pub lowest : least ≡ lower (length doc) lines
  pub inside : a ≤ length doc
  pub small : length doc ≤ limit
  pub low : col ≤ columns

pub body_first : (doc : List ℕ) (e col : ℕ) → e < length doc → length doc ≤ limit → col ≤ columns → Bodying doc e col (e + 1) e (length doc)
unfolding body_end
body_first doc e col l m n =
    record {
      lines = [];
      going = going_first (goes_on col) (lead col) (body_line_r col) doc (e + 1);
      placed = over;
      ends = refl;
      lowest = refl;
      inside = omega arith;
      small = m;
      low = n;
    }

module _ (doc : List ℕ) (e col a last least : ℕ) (i : Bodying doc e col a last least) (r : Result Seen ℕ) (x : Sees doc col a r) where
  line_tame : Tame 1 (body_line_r col)
  line_tame = (body_line_exact col).moves

  blank_of : (n : ℕ) → r ≡ Ok (Empty n) → SeenBlank doc col a n
  unfolding Sees
  blank_of n z = rw z at x

  text_of : (s f : ℕ) → r ≡ Ok (Written s f) → SeenText doc col a s f
  unfolding Sees
  text_of s f z = rw z at x

  none_of : (far : ℕ) → r ≡ Ok (Over far) → SeenNone doc col a far
  unfolding Sees
  none_of far z = rw z at x

  bad_of : (p : ℕ) → r ≡ Err p → SeenBad doc col a p
  unfolding Sees
  bad_of p z = rw z at x

  pub blank_further : (n : ℕ) → r ≡ Ok (Empty n) → length doc - n < length doc - a
  blank_further n z = let y = blank_of n z in omega (arith, y.next, y.blank.inside)

  pub body_blank : (n : ℕ) → r ≡ Ok (Empty n) → Bodying doc e col n last least
  body_blank n z =
      let y = blank_of n z in
      rw
      y.next
      (record {
        lines = i.lines ++ blank ∷ [];
        going = going_on (goes_on col) (lead col) (body_line_r col) doc (e + 1) a i.lines line_tame 0 blank (a + 1) y.look y.is (omega arith) (omega arith) (omega (arith, y.blank.inside)) i.going;
        placed = placed_blank i.placed y.blank;
        ends = i.ends ∙ sym (end_blank e i.lines);
        lowest = i.lowest ∙ sym (lower_blank (length doc) i.lines);
        inside = omega (arith, y.blank.inside);
        small = i.small;
        low = i.low;
      })

  module _ (s f : ℕ) (z : r ≡ Ok (Written s f)) where
    pub text_deep : a + col + 1 ≤ s
    text_deep = omega (arith, (text_of s f z).text.deep)

    pub text_inner : f < length doc
    text_inner = (text_of s f z).text.inside

    pub text_further : length doc - (f + 1) < length doc - a
    text_further = omega (arith, (text_of s f z).text.deep, (text_of s f z).text.ahead, text_inner)

    pub body_text : (n : ℕ) → n ≡ min least (s - (a + col + 1)) → Bodying doc e col (f + 1) f n
    body_text n q =
        let y = text_of s f z in
        let d = y.text.deep in
        let h = y.text.ahead in
        let k : s - (a + col + 1) ≡ s - (a + suc col) = omega arith in
        record {
          lines = i.lines ++ line_at doc col a s f ∷ [];
          going = going_on (goes_on col) (lead col) (body_line_r col) doc (e + 1) a i.lines line_tame 0 (line_at doc col a s f) (f + 1) y.look y.is (omega arith) (omega arith) (omega (arith, y.text.inside)) i.going;
          placed = placed_text i.placed y.text;
          ends = sym (end_text e i.lines (s - (a + suc col)) (slice s f doc) f);
          lowest = q ∙ (ap (min least) k ∙ (ap (λ m. min m (s - (a + suc col))) i.lowest ∙ sym (lower_text (length doc) i.lines (s - (a + suc col)) (slice s f doc) f)));
          inside = omega (arith, y.text.inside);
          small = i.small;
          low = i.low;
        }

  pub body_whole : (far : ℕ) → r ≡ Ok (Over far) → BodyAt doc e col (Ok (record { at = a; far = far; last = last; least = least }))
  unfolding BodyAt body_r
  body_whole far z =
      let y = none_of far z in
      record {
        lines = i.lines;
        is = going_over (goes_on col) (lead col) (body_line_r col) doc (e + 1) a i.lines y.look i.going ∙ ap (λ n. soft n i.lines a (drop a doc)) (sym y.reach);
        placed = i.placed;
        ends = i.ends;
        lowest = i.lowest;
        inside = i.inside;
        ahead = omega (arith, y.reach);
      }

  pub body_broken : (p : ℕ) → r ≡ Err p → BodyAt doc e col (Err p)
  unfolding BodyAt body_r
  body_broken p z = let y = bad_of p z in going_bad (goes_on col) (lead col) (body_line_r col) doc (e + 1) a i.lines p y.inside y.look y.is i.going

pub ruleset bodying = (body_first, blank_further, body_blank, text_deep, text_inner, text_further, body_text, body_whole, body_broken, rules)
