-- The lines of a block string's body are read exactly: blank ones, and text lines deeper than a column. Any number of them eat the blank lines behind them.
use Rattle.std.specs.Prelude.{◌≡◌, ◌⊎◌, Bool}
use Rattle.std.proofs.Math.Path.{refl}
use mathlib.Core.List.{List, [], ◌∷◌, ◌++◌}
use Rattle.std.proofs.Common.{inl, inr, arith}
use Rattle.std.proofs.Math.Bool.{true, false}
use Prim.Native.Nat.{ℕ, zero, suc, ◌+◌}
use Rattle.notation.specs.Lang.{Star, Map, cat, byte, ret, one, two}
use Rattle.language.specs.Characters.{dark}
use Rattle.language.specs.BlockText.{Line, blank, line, Deeper, TextLine, BodyLine}
use Rattle.exact.specs.Class.{Starts, pick, or, clash, is, only, or_of, and_of, none, nothing}
use Rattle.exact.specs.Out.{Reader, bad}
use Rattle.exact.specs.Lang.{None, Exact, within_bar, weaken, ret_r, byte_r, byte_exact}
use Rattle.exact.specs.Comb.{seq_r, map_r, map_exact, alt_r, alt_exact, many_r}
use Rattle.exact.specs.Ll.{Shape, Ll, seq_ll, star_ll, relax}
use Rattle.exact.specs.Block.{many_g, Clear, Looks, body_exact, ind, lead, lead_near, ind_of}
use Rattle.utf8.specs.Char.{char_r, char_s}
use Rattle.utf8.proofs.CharLaws.{char_ll}
use Rattle.characters.specs.Comments.{piece_r, piece_s, piece_ll}
use Rattle.blocktext.specs.Follow.{beyond}
use Rattle.blocktext.specs.Opens.{Opens, byte_opens, seq_opens, ll_opens}
use Rattle.blocktext.specs.LineEnd.{line_end_r, line_end_ll}
use Rattle.blocktext.specs.Deeper.{Spaced, deeper, deeper_r, deeper_exact, deeper_clear, deeper_fails}

-- A TEXT LINE, behind its spaces
unfoldable pub text_line_r : ℕ → Reader Line
text_line_r i = seq_r (char_r dark) λ d. seq_r (many_r (is piece_s.first) piece_r) λ ps. line_end_r (line i (d ++ cat ps))

abbrev pub text_line_s : Shape
text_line_s = record { null = false; first = (char_s dark).first; follow = [] }

pub text_line_ll : (i : ℕ) → Ll text_line_s (TextLine i) (text_line_r i)
unfolding text_line_r
text_line_ll i =
    relax text_line_s refl refl refl (seq_ll refl (char_ll dark) λ d. seq_ll refl (star_ll refl refl piece_ll) λ ps. line_end_ll (line i (d ++ cat ps)))

text_line_exact : (i : ℕ) → Exact 1 (TextLine i) None (text_line_r i)
text_line_exact i = weaken 1 None (omega arith) (within_bar _ None nothing) (text_line_ll i).exact

text_line_opens : (i : ℕ) → Opens (char_s dark).first (TextLine i)
text_line_opens i = ll_opens refl (text_line_ll i)

-- A LINE OF THE BODY
abbrev pub blank_r : Reader Line
blank_r = seq_r (byte_r (is (only 10))) λ _. ret_r blank

unfoldable pub body_line_r : ℕ → Reader Line
body_line_r c = alt_r (is (only 10)) blank_r (deeper_r c text_line_r)

-- a line of the body begins here: an LF, or more than c spaces
abbrev pub goes_on : ℕ → List ℕ → Bool
goes_on c [] = false
goes_on c (b ∷ s) = or (is (only 10) b) (deeper c (b ∷ s))

unfoldable pub body_r : ℕ → Reader (List Line)
body_r c = many_g (goes_on c) (lead c) (body_line_r c)

module _ (c : ℕ) where
  text_exact : Exact 1 (Deeper c TextLine) None (deeper_r c text_line_r)
  text_exact = deeper_exact (char_s dark).first refl text_line_opens text_line_exact c

  -- a text line begins with a space
  text_dry : (at : ℕ) (s : List ℕ) (v : Line) (at' : ℕ) (t : List ℕ) → Deeper c TextLine at s v at' t → Starts (is (only 10)) s → ⊥
  text_dry at [] v at' t x z = z
  text_dry at (b ∷ s) v at' t x z = none (only 32) (only 10) b refl (go c (ind_of (is (only 32)) spaced.opens c at (b ∷ s) v at' t x)) z
    where
      spaced : Opens (only 32) (Spaced TextLine)
      spaced = seq_opens (byte_opens (only 32))

      go : (n : ℕ) → ind (is (only 32)) n (b ∷ s) ≡ true → is (only 32) b ≡ true
      go zero e = e
      go (suc n) e = (and_of (is (only 32) b) (ind (is (only 32)) n s) e).0

  pub body_line_exact : Exact 1 (BodyLine c) None (body_line_r c)
  unfolding body_line_r
  body_line_exact =
      alt_exact
      (is (only 10))
      (seq_opens (byte_opens (only 10))).opens
      (λ at s v at' t x g z. text_dry at s v at' t x z)
      (map_exact (λ _. blank) (byte_exact (is (only 10)) 10 refl))
      text_exact

  body_clear : (s : List ℕ) → Clear (Deeper c TextLine) (beyond c).bars s → Clear (BodyLine c) (beyond c).bars s
  body_clear s k =
      record {
        m = k.m;
        fits = k.fits;
        taken = k.taken;
        alive = λ K ne at.
            let x = k.alive K ne at in
            record {
              more = x.more;
              value = x.value;
              word = record { value = x.word.value; next = x.word.next; rest = x.word.rest; first = two x.word.first; others = x.word.others };
            };
      }

  body_look : (s : List ℕ) → goes_on c s ≡ true → Clear (BodyLine c) (beyond c).bars s ⊎ Starts (is (only 10)) s
  body_look [] e = absurd (clash e refl)
  body_look (b ∷ s) e = by (or_of (is (only 10) b) (deeper c (b ∷ s)) e)
    where
      by : (is (only 10) b ≡ true) ⊎ (deeper c (b ∷ s) ≡ true) → Clear (BodyLine c) (beyond c).bars (b ∷ s) ⊎ (is (only 10) b ≡ true)
      by (inl x) = inr x
      by (inr x) = inl (body_clear (b ∷ s) (deeper_clear (char_s dark).first refl text_line_opens text_line_exact c (b ∷ s) x))

  body_fails : (at : ℕ) (s : List ℕ) → goes_on c s ≡ false → body_line_r c at s ≡ bad (at + lead c s)
  unfolding body_line_r
  body_fails at [] e = deeper_fails text_line_r c at [] (nil_false c)
    where
      nil_false : (n : ℕ) → ind (is (only 32)) n [] ≡ false
      nil_false zero = refl
      nil_false (suc n) = refl
  body_fails at (b ∷ s) e = by (is (only 10) b) e
    where
      by : (x : Bool) → or x (deeper c (b ∷ s)) ≡ false → pick x (blank_r at (b ∷ s)) (deeper_r c text_line_r at (b ∷ s)) ≡ bad (at + lead c (b ∷ s))
      by true y = absurd (clash refl y)
      by false y = deeper_fails text_line_r c at (b ∷ s) y

  looks : Looks (BodyLine c) None (body_line_r c) (beyond c).bars (goes_on c) (lead c) (is (only 10)) blank
  looks =
      record {
        into = λ t x. absurd x;
        avoids = λ at s v at' t x y. y;
        keeps = λ at b s v at' t x e. clash e refl;
        look = body_look;
        fails = body_fails;
        near = lead_near c;
        blank = λ at b t e. one (record { value = b; middle = suc at; rest = t; first = byte e; second = ret });
      }

  -- THE BODY, of which something is made that one more blank line at the end does not change
  pub text_body_exact : {Y : Type 0} (norm : List Line → Y) → ((ls : List Line) → norm (ls ++ blank ∷ []) ≡ norm ls)
      → Exact 0 (Map norm (Star (BodyLine c))) (beyond c) (map_r norm (body_r c))
  unfolding body_r
  text_body_exact norm trims = body_exact norm trims looks body_line_exact
