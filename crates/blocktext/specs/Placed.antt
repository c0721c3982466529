-- THE LINES OF A BODY as they stand in a document, and the text that they make: the laws of the loop that writes it.
use Rattle.std.specs.Prelude.{◌≡◌, refl, List, [], ◌∷◌, ◌++◌, ◌⊎◌, ℕ, zero, suc, ◌+◌, ◌-◌, ◌≤◌, ◌<◌, min, length}
use Rattle.std.proofs.Common.{sym, ap, ◌∙◌, inl, inr, arith, length-append}
use Rattle.std.proofs.Math.Seq.{slice, length-slice}
use Rattle.language.specs.BlockText.{Line, blank, line, hold, trim, lower, lowest, spaces, unlines, body_text, body_end}
use Rattle.exact.specs.Place.{peek}

-- an LF alone at a
pub record Blank (doc : List ℕ) (a : ℕ) : Type 0 where
  pub inside : a < length doc
  pub feed : peek doc a ≡ 10

-- spaces from a to s, more than c of them, a text up to e, and an LF
pub record Text (doc : List ℕ) (c a s e : ℕ) : Type 0 where
  pub deep : a + c < s
  pub ahead : s < e
  pub inside : e < length doc
  pub spaced : (j : ℕ) → a ≤ j → j < s → peek doc j ≡ 32
  pub dry : (j : ℕ) → s ≤ j → j < e → peek doc j ≡ 10 → ⊥
  pub feed : peek doc e ≡ 10

abbrev pub line_at : List ℕ → ℕ → ℕ → ℕ → ℕ → Line
line_at doc c a s e = line (s - (a + suc c)) (slice s e doc) e

pub data Placed (doc : List ℕ) (c : ℕ) : ℕ → List Line → ℕ → Type 0 where
  over : {a : ℕ} → Placed doc c a [] a
  empty : {a : ℕ} {ls : List Line} {z : ℕ} → Blank doc a → Placed doc c (a + 1) ls z → Placed doc c a (blank ∷ ls) z
  full : {a s e : ℕ} {ls : List Line} {z : ℕ} → Text doc c a s e → Placed doc c (e + 1) ls z → Placed doc c a (line_at doc c a s e ∷ ls) z

-- ONE LINE MORE
module _ {doc : List ℕ} {c : ℕ} where
  pub placed_blank : {a : ℕ} {ls : List Line} {b : ℕ} → Placed doc c a ls b → Blank doc b → Placed doc c a (ls ++ blank ∷ []) (b + 1)
  placed_blank over x = empty x over
  placed_blank (empty y p) x = empty y (placed_blank p x)
  placed_blank (full y p) x = full y (placed_blank p x)

  pub placed_text : {a : ℕ} {ls : List Line} {b s e : ℕ} → Placed doc c a ls b → Text doc c b s e → Placed doc c a (ls ++ line_at doc c b s e ∷ []) (e + 1)
  placed_text over x = full x over
  placed_text (empty y p) x = empty y (placed_text p x)
  placed_text (full y p) x = full y (placed_text p x)

pub end_text : (e : ℕ) (ls : List Line) (i : ℕ) (t : List ℕ) (f : ℕ) → body_end e (ls ++ line i t f ∷ []) ≡ f
unfolding body_end
end_text e [] i t f = refl
end_text e (blank ∷ ls) i t f = end_text e ls i t f
end_text e (line j u g ∷ ls) i t f = end_text g ls i t f

pub lower_blank : (m : ℕ) (ls : List Line) → lower m (ls ++ blank ∷ []) ≡ lower m ls
lower_blank m [] = refl
lower_blank m (blank ∷ ls) = lower_blank m ls
lower_blank m (line i t e ∷ ls) = lower_blank (min m i) ls

pub lower_text : (m : ℕ) (ls : List Line) (i : ℕ) (t : List ℕ) (e : ℕ) → lower m (ls ++ line i t e ∷ []) ≡ min (lower m ls) i
lower_text m [] i t e = refl
lower_text m (blank ∷ ls) i t e = lower_text m ls i t e
lower_text m (line j u f ∷ ls) i t e = lower_text (min m j) ls i t e

-- THE LEAST INDENTATION
pub lower_le : (m : ℕ) (ls : List Line) → lower m ls ≤ m
lower_le m [] = omega arith
lower_le m (blank ∷ ls) = lower_le m ls
lower_le m (line i t e ∷ ls) = let h = lower_le (min m i) ls in omega arith

lower_min : (m k : ℕ) (ls : List Line) → lower (min m k) ls ≡ min m (lower k ls)
lower_min m k [] = refl
lower_min m k (blank ∷ ls) = lower_min m k ls
lower_min m k (line i t e ∷ ls) = let z : min (min m k) i ≡ min m (min k i) = omega arith in ap (λ n. lower n ls) z ∙ lower_min m (min k i) ls

pub lower_self : (m : ℕ) (ls : List Line) → lower (lower m ls) ls ≡ lower m ls
lower_self m ls =
    let x = lower_min (lower m ls) m ls in
    let y = lower_le m ls in
    let z : min (lower m ls) m ≡ lower m ls = omega arith in
    ap (λ n. lower n ls) (sym z) ∙ (x ∙ omega arith)

lower_hold : (m : ℕ) (ls : List Line) → lower m (hold ls) ≡ lower m ls
lower_hold m [] = refl
lower_hold m (l ∷ ls) = refl

lower_trim : (m : ℕ) (ls : List Line) → lower m (trim ls) ≡ lower m ls
lower_trim m [] = refl
lower_trim m (blank ∷ ls) = lower_hold m (trim ls) ∙ lower_trim m ls
lower_trim m (line i t e ∷ ls) = lower_trim (min m i) ls

-- a text is no deeper than the document is long, so that its length is as good as no bound
pub text_least : {doc : List ℕ} {c a z : ℕ} {ls : List Line} → Placed doc c a ls z → body_text ls ≡ unlines (lower (length doc) ls) (trim ls)
unfolding body_text
text_least over = refl
text_least {doc} {c} {a} {z} (empty {ls = ls} x p) = by (trim ls) (text_least p)
  where
    by : (rs : List Line) → unlines (lowest rs) rs ≡ unlines (lower (length doc) ls) rs → unlines (lowest (hold rs)) (hold rs) ≡ unlines (lower (length doc) ls) (hold rs)
    by [] h = refl
    by (r ∷ rs) h = ap (10 ∷◌) h
text_least {doc} {c} {a} (full {s = s} {e = e} {ls = ls} x p) =
    let z : min (length doc) (s - (a + suc c)) ≡ s - (a + suc c) = let k = x.inside in let l = x.ahead in omega arith in
    ap (λ n. unlines n (line_at doc c a s e ∷ trim ls)) (lower_trim (s - (a + suc c)) ls ∙ ap (λ n. lower n ls) (sym z))

-- WHERE THE LAST TEXT ENDS
pub trim_none : (b : ℕ) (ls : List Line) → trim ls ≡ [] → body_end b ls ≡ b
unfolding body_end
trim_none b [] e = refl
trim_none b (blank ∷ ls) e = by (trim ls) e (trim_none b ls)
  where
    by : (rs : List Line) → hold rs ≡ [] → (rs ≡ [] → body_end b ls ≡ b) → body_end b ls ≡ b
    by [] x ih = ih refl
    by (r ∷ rs) x ih = absurd (let z : ◌≡◌ {A = ℕ} 0 1 = cc in omega arith)
trim_none b (line i t f ∷ ls) e = absurd (let z : ◌≡◌ {A = ℕ} 0 1 = cc in omega arith)

pub text_ahead : {doc : List ℕ} {c a : ℕ} {ls : List Line} {z : ℕ} (b : ℕ) → Placed doc c a ls z → (trim ls ≡ []) ⊎ (a < body_end b ls)
unfolding body_end
text_ahead b over = inl refl
text_ahead {a = a} b (empty {ls = ls} x p) = by (text_ahead b p)
  where
    by : (trim ls ≡ []) ⊎ (a + 1 < body_end b ls) → (hold (trim ls) ≡ []) ⊎ (a < body_end b ls)
    by (inl e) = inl (ap hold e)
    by (inr l) = inr (omega arith)
text_ahead {a = a} b (full {e = e} {ls = ls} x p) = inr (by (text_ahead e p))
  where
    by : (trim ls ≡ []) ⊎ (e + 1 < body_end e ls) → a < body_end e ls
    by (inl h) = let k = trim_none e ls h in let l = x.deep in let m = x.ahead in omega arith
    by (inr h) = let l = x.deep in let m = x.ahead in omega arith

-- A TEXT IS NO LONGER than the lines it stands on
pub length_spaces : (n : ℕ) → length (spaces n) ≡ n
length_spaces zero = refl
length_spaces (suc n) = ap suc (length_spaces n)

pub length_line : (m i : ℕ) (t : List ℕ) (u : List ℕ) → length (spaces (i - m) ++ t ++ 10 ∷ u) ≡ (i - m) + length t + suc (length u)
length_line m i t u =
    length-append (spaces (i - m) ++ t) (10 ∷ u) ∙ (let x = length-append (spaces (i - m)) t in let y = length_spaces (i - m) in omega arith)

pub text_few : {doc : List ℕ} {c a : ℕ} {ls : List Line} {z : ℕ} (m : ℕ) → Placed doc c a ls z → a + length (unlines m (trim ls)) ≤ z
text_few m over = omega arith
text_few {a = a} {z = z} m (empty {ls = ls} x p) = by (trim ls) (text_few m p)
  where
    by : (rs : List Line) → a + 1 + length (unlines m rs) ≤ z → a + length (unlines m (hold rs)) ≤ z
    by [] h = omega arith
    by (r ∷ rs) h = omega arith
text_few {doc} {c} {a} m (full {s = s} {e = e} {ls = ls} x p) =
    let h = text_few m p in
    let k = length_line m (s - (a + suc c)) (slice s e doc) (unlines m (trim ls)) in
    let n = length-slice s e doc (let i = x.inside in omega arith) in
    let i = x.deep in
    let j = x.ahead in
    omega arith

pub placed_inside : {doc : List ℕ} {c a : ℕ} {ls : List Line} {z : ℕ} → Placed doc c a ls z → a ≤ z
placed_inside over = omega arith
placed_inside (empty x p) = let h = placed_inside p in omega arith
placed_inside (full x p) = let h = placed_inside p in let i = x.deep in let j = x.ahead in omega arith

-- WHAT COMES FIRST
pub data First (doc : List ℕ) (c a z : ℕ) (ls : List Line) : Type 0 where
  first_none : ls ≡ [] → First doc c a z ls
  first_blank : (rs : List Line) → ls ≡ blank ∷ rs → Blank doc a → Placed doc c (a + 1) rs z → First doc c a z ls
  first_text : (s e : ℕ) (rs : List Line) → ls ≡ line_at doc c a s e ∷ rs → Text doc c a s e → Placed doc c (e + 1) rs z → First doc c a z ls

pub first : {doc : List ℕ} {c a : ℕ} {ls : List Line} {z : ℕ} → Placed doc c a ls z → First doc c a z ls
first over = first_none refl
first (empty {ls = rs} x p) = first_blank rs refl x p
first (full {s = s} {e = e} {ls = rs} x p) = first_text s e rs refl x p

pub ends_inner : {doc : List ℕ} {c a : ℕ} {ls : List Line} {z : ℕ} (b : ℕ) → b < a → Placed doc c a ls z → body_end b ls < z
unfolding body_end
ends_inner b l over = l
ends_inner b l (empty x p) = ends_inner b (omega arith) p
ends_inner b l (full {e = e} x p) = ends_inner e (omega arith) p
