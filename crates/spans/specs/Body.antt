-- BLOCK STRINGS in their bytes: the body's text, its indentation taken away, is not longer than its lines. Assumes nothing.
use Rattle.std.specs.Prelude.{◌≡◌, refl, List, [], ◌∷◌, ◌++◌, ℕ, zero, suc, ◌+◌, ◌-◌, ◌≤◌, ◌<◌, length}
use Rattle.std.proofs.Common.{arith}
use Rattle.notation.specs.Lang.{Lang, Star, cat}
use Rattle.language.specs.Kind.{STRING}
use Rattle.language.specs.Tree.{unescaped, leaf}
use Rattle.language.specs.BlockText.{Line, blank, line, Deeper, TextLine, BodyLine, hold, trim, lowest, spaces, unlines, body_text, body_end, OpenString, PropertyString}
use Rattle.spans.specs.Every.{Every, InFront, ret_every, here_then, byte_then, bind_every, via, map_every, alt_every, star_every, indented_every}
use Rattle.spans.specs.Formed.{Formed, formed_text}
use Rattle.spans.specs.Lies.{Lies}
use Rattle.spans.specs.Texts.{Fits, joined, star_fits, star_cat, plus_cat, byte_steps, option_fits, char_fits, piece_fits}

-- the bytes of lines, less the indentation that every line must have
abbrev pub weight : List Line → ℕ
weight [] = 0
weight (blank ∷ ls) = suc (weight ls)
weight (line i t e ∷ ls) = suc (i + length t + weight ls)

spaces_length : (n : ℕ) → length (spaces n) ≡ n
spaces_length zero = refl
spaces_length (suc n) = let h = spaces_length n in omega arith

pub unlines_le : (m : ℕ) (ls : List Line) → length (unlines m ls) ≤ weight ls
unlines_le m [] = omega arith
unlines_le m (blank ∷ ls) = let h = unlines_le m ls in omega arith
unlines_le m (line i t e ∷ ls) =
    let h = unlines_le m ls in
    omega (arith, joined (spaces (i - m) ++ t) (10 ∷ unlines m ls), joined (spaces (i - m)) t, spaces_length (i - m))

pub hold_le : (ls : List Line) → weight (hold ls) ≤ suc (weight ls)
hold_le [] = omega arith
hold_le (l ∷ ls) = omega arith

pub trim_le : (ls : List Line) → weight (trim ls) ≤ weight ls
trim_le [] = omega arith
trim_le (blank ∷ ls) = let h = trim_le ls in let k = hold_le (trim ls) in omega arith
trim_le (line i t e ∷ ls) = let h = trim_le ls in omega arith

pub body_le : (ls : List Line) → length (body_text ls) ≤ weight ls
unfolding body_text
body_le ls = let h = trim_le ls in let k = unlines_le (lowest (trim ls)) (trim ls) in omega arith

-- the lines of a body from `at` up to at', behind a line that ends at e
pub record Body (at : ℕ) (ls : List Line) (at' : ℕ) : Type 0 where
  pub fits : at + weight ls ≤ at'
  pub begins : (e : ℕ) → e < at → e ≤ body_end e ls
  pub ends : (e : ℕ) → e < at → body_end e ls < at'

body_none : (at : ℕ) → Body at [] at
unfolding body_end
body_none at = record { fits = omega arith; begins = λ e h. omega arith; ends = λ e h. h }

body_blank : {at at' : ℕ} {ls : List Line} → Body (suc at) ls at' → Body at (blank ∷ ls) at'
unfolding body_end
body_blank x =
    let f = x.fits in
    record { fits = omega arith; begins = λ e h. x.begins e (omega arith); ends = λ e h. x.ends e (omega arith) }

body_line : {at i f at' : ℕ} {t : List ℕ} {ls : List Line} → at + i + length t ≤ f → Body (suc f) ls at' → Body at (line i t f ∷ ls) at'
unfolding body_end
body_line {f = f} k x =
    let g = x.fits in
    let b = x.begins f (omega arith) in
    record { fits = omega arith; begins = λ e h. omega arith; ends = λ e h. x.ends f (omega arith) }

-- on more than c spaces, i of them behind the first c + 1
pub deeper_every : {X : Type 0} {A : ℕ → Lang X} (c at : ℕ) {R : X → ℕ → Type 0} → ((i n : ℕ) → at + i < n → Every (A i) n R) → Every (Deeper c A) at R
deeper_every c at k = indented_every c (λ m h. byte_then (λ b. bind_every (star_fits byte_steps (suc m)) (λ ss n l. k (length ss) n (omega arith))))

text_line_every : (i at n : ℕ) → at + i ≤ n → Every (TextLine i) n (InFront Body (Body at))
text_line_every i at n h =
    bind_every
    (char_fits n)
    (λ d m k. bind_every (star_cat piece_fits m) (λ ps e l. here_then (byte_then (λ b. ret_every (λ ls at' x. body_line (omega (arith, joined d (cat ps))) x)))))

pub body_every : (c at : ℕ) → Every (Star (BodyLine c)) at (Body at)
body_every c at =
    star_every
    Body
    body_none
    (λ a. alt_every (byte_then (λ b. ret_every (λ ls at' x. body_blank x))) (deeper_every c a (λ i n h. text_line_every i a n (omega arith))))
    at
