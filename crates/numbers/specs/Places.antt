-- Digits at a place of a document: where they end, what they are without spaces, and that the reader of digits says so. Assumes nothing.
use Rattle.std.specs.Prelude.{◌≡◌, List, [], ◌∷◌, Bool, true, false, ℕ, zero, suc, ◌+◌, ◌≤◌, length, take, drop, eqb}
use Rattle.std.proofs.Math.Path.{refl}
use Rattle.std.proofs.Common.{sym, ap, ◌∙◌, arith, drop-drop, ne_eqb, eq-eqb}
use Rattle.std.proofs.Math.Seq.{slice}
use Rattle.exact.specs.Class.{pick, and, or, clash, is, only, none, only_yes, only_eq}
use Rattle.exact.specs.Out.{bind, fmap, ok, soft, bad}
use Rattle.exact.specs.Lang.{ret_r}
use Rattle.exact.specs.Block.{star_g, lead}
use Rattle.exact.specs.Lines.{reached, soft_reached}
use Rattle.exact.specs.Place.{peek, run, many_run, there, There, byte_there, none_there, slice_at}
use Rattle.language.specs.Scalars.{digit}
use Rattle.numbers.specs.Digits.{next, goes_on, further_r, more_r, digits_r}

-- without its spaces
unfoldable pub squeezed : List ℕ → List ℕ
squeezed [] = []
squeezed (b ∷ s) = pick (eqb b 32) (squeezed s) (b ∷ squeezed s)

-- how many bytes go on from digits
unfoldable pub tail : Bool → List ℕ → ℕ
tail spaced [] = 0
tail spaced (b ∷ t) = pick (or (is digit b) (and spaced (and (is (only 32) b) (next t)))) (suc (tail spaced t)) 0

abbrev pub tail_end : Bool → List ℕ → ℕ → ℕ
tail_end spaced doc at = at + tail spaced (drop at doc)

-- the place after the digits at a place, which is that place where there are none
abbrev pub group_end : Bool → List ℕ → ℕ → ℕ
group_end spaced doc at = pick (is digit (peek doc at)) (tail_end spaced doc at) at

-- a space and a digit stand at a place
abbrev pub gap_at : List ℕ → ℕ → Bool
gap_at doc at = and (is (only 32) (peek doc at)) (is digit (peek doc (at + 1)))

-- how far digits that end at a place stay viable: behind a space, where spaces may stand between them; 0 for not at all
unfoldable pub far_at : Bool → List ℕ → ℕ → ℕ
far_at false doc at = 0
far_at true doc at = at + lead 1 (drop at doc)

-- THE READER OF DIGITS
digit_space : (b : ℕ) → is digit b ≡ true → eqb b 32 ≡ false
digit_space b e = ne_eqb b 32 (λ z. none digit (only 32) b refl e (only_yes 32 b z))

-- by a look: with turns enough, all that goes on is read
abbrev AllRead : ℕ → ℕ → List ℕ → Type 0
AllRead n at s =
    star_g goes_on (lead 1) further_r n at s
    ≡ soft (at + tail true s + lead 1 (drop (tail true s) s)) (squeezed (take (tail true s) s)) (at + tail true s) (drop (tail true s) s)

soft_eq : {X : Type 0} {p p' : ℕ} {v : X} {a a' : ℕ} {t : List ℕ} → p ≡ p' → a ≡ a' → soft p v a t ≡ soft p' v a' t
soft_eq e h = rw (e, h)

read_digit : (n at b : ℕ) (t : List ℕ) → is digit b ≡ true → AllRead n (suc at) t → AllRead (suc n) at (b ∷ t)
unfolding tail squeezed
read_digit n at b t e ih = rw (e, digit_space b e) (ap (fmap (b ∷◌)) ih ∙ soft_eq (omega arith) (omega arith))

read_gap : (n at b d : ℕ) (t : List ℕ) → is digit b ≡ false → is (only 32) b ≡ true → is digit d ≡ true → AllRead n (suc (suc at)) t → AllRead (suc n) at (b ∷ d ∷ t)
unfolding tail squeezed
read_gap n at b d t o e h ih =
    rw (o, e, h, eq-eqb b 32 (only_eq 32 b e), digit_space d h) (ap (fmap (d ∷◌)) ih ∙ soft_eq (omega arith) (omega arith))

read_none : (n at : ℕ) (s : List ℕ) → goes_on s ≡ false → AllRead n at s
unfolding tail squeezed
read_none zero at [] e = soft_eq (omega arith) (omega arith)
read_none (suc n) at [] e = soft_eq (omega arith) (omega arith)
read_none zero at (b ∷ t) e = rw e (soft_eq (omega arith) (omega arith))
read_none (suc n) at (b ∷ t) e = rw e (soft_eq (omega arith) (omega arith))

more_look : (n at : ℕ) (s : List ℕ) → length s ≤ n → AllRead n at s
more_look zero at [] l = read_none zero at [] refl
more_look zero at (b ∷ t) l = absurd (omega arith)
more_look (suc n) at [] l = read_none (suc n) at [] refl
more_look (suc n) at (b ∷ []) l = by (is digit b) refl (is (only 32) b) refl (more_look n (suc at) [] (omega arith))
  where
    by : (x : Bool) → is digit b ≡ x → (y : Bool) → is (only 32) b ≡ y → AllRead n (suc at) [] → AllRead (suc n) at (b ∷ [])
    by true e y h ih = read_digit n at b [] e ih
    by false e true h ih = read_none (suc n) at (b ∷ []) (rw (e, h))
    by false e false h ih = read_none (suc n) at (b ∷ []) (rw (e, h))
more_look (suc n) at (b ∷ d ∷ t) l =
    by (is digit b) refl (is (only 32) b) refl (is digit d) refl (more_look n (suc at) (d ∷ t) (omega arith)) (more_look n (suc (suc at)) t (omega arith))
  where
    by : (x : Bool) → is digit b ≡ x → (y : Bool) → is (only 32) b ≡ y → (z : Bool) → is digit d ≡ z → AllRead n (suc at) (d ∷ t) → AllRead n (suc (suc at)) t
        → AllRead (suc n) at (b ∷ d ∷ t)
    by true e y h z k ih ih' = read_digit n at b (d ∷ t) e ih
    by false e true h true k ih ih' = read_gap n at b d t e h k ih'
    by false e true h false k ih ih' = read_none (suc n) at (b ∷ d ∷ t) (rw (e, h, k))
    by false e false h z k ih ih' = read_none (suc n) at (b ∷ d ∷ t) (rw (e, h))

-- by bytes alone
pub tail_false : (s : List ℕ) → tail false s ≡ run digit s
unfolding tail run
tail_false [] = refl
tail_false (b ∷ s) = by (is digit b) (tail_false s)
  where
    by : (x : Bool) → tail false s ≡ run digit s → pick (or x false) (suc (tail false s)) 0 ≡ pick x (suc (run digit s)) 0
    by true ih = ap suc ih
    by false ih = refl

pub run_dense : (s : List ℕ) → squeezed (take (run digit s) s) ≡ take (run digit s) s
unfolding squeezed run
run_dense [] = refl
run_dense (b ∷ s) = by (is digit b) refl (run_dense s)
  where
    by : (x : Bool) → is digit b ≡ x → squeezed (take (run digit s) s) ≡ take (run digit s) s
        → squeezed (take (pick x (suc (run digit s)) 0) (b ∷ s)) ≡ take (pick x (suc (run digit s)) 0) (b ∷ s)
    by true e ih = rw (digit_space b e) (ap (b ∷◌) ih)
    by false e ih = refl

pub reached_eq : {X : Type 0} (p p' : ℕ) {v v' : X} (a a' : ℕ) {t t' : List ℕ} → p ≡ p' → v ≡ v' → a ≡ a' → t ≡ t' → reached p v a t ≡ reached p' v' a' t'
reached_eq p p' a a' e f g h = rw (e, f, g, h)

-- a digit, and what goes on
abbrev far : Bool → ℕ → List ℕ → ℕ
far spaced at t = pick spaced (at + lead 1 t) 0

digits_list : (spaced : Bool) (at b : ℕ) (t : List ℕ) → is digit b ≡ true
    → let n = suc (tail spaced t) in
    digits_r spaced at (b ∷ t) ≡ reached (far spaced (at + n) (drop n (b ∷ t))) (b ∷ squeezed (take (tail spaced t) t)) (at + n) (drop n (b ∷ t))
unfolding digits_r more_r
digits_list false at b t e =
    rw (e, tail_false t, run_dense t)
    (ap (λ o. bind o (λ ds. ret_r (b ∷ ds))) (many_run digit (suc at) t) ∙ ap (λ n. ok (b ∷ take (run digit t) t) n (drop (run digit t) t)) (omega arith))
digits_list true at b t e =
    let k = tail true t in
    rw e
    (ap (λ o. bind o (λ ds. ret_r (b ∷ ds))) (more_look (length t) (suc at) t (omega arith))
    ∙ (soft_reached (suc at + k + lead 1 (drop k t)) (b ∷ squeezed (take k t)) (suc at + k) (drop k t) (omega arith)
    ∙ reached_eq (suc at + k + lead 1 (drop k t)) (at + suc k + lead 1 (drop k t)) (suc at + k) (at + suc k) (omega arith) refl (omega arith) refl))

far_at_lem : (spaced : Bool) (doc : List ℕ) (at : ℕ) → far spaced at (drop at doc) ≡ far_at spaced doc at
unfolding far_at
far_at_lem false doc at = refl
far_at_lem true doc at = refl

pub tail_digit : (spaced : Bool) (b : ℕ) (t : List ℕ) → is digit b ≡ true → tail spaced (b ∷ t) ≡ suc (tail spaced t)
unfolding tail
tail_digit spaced b t e = rw e refl

squeeze_digit : (b : ℕ) (t : List ℕ) → is digit b ≡ true → squeezed (b ∷ t) ≡ b ∷ squeezed t
unfolding squeezed
squeeze_digit b t e = rw (digit_space b e) refl

module _ (spaced : Bool) (doc : List ℕ) (at : ℕ) where
  pub digits_read : (e : ℕ) → e ≡ group_end spaced doc at → is digit (peek doc at) ≡ true
      → digits_r spaced at (drop at doc) ≡ reached (far_at spaced doc e) (squeezed (slice at e doc)) e (drop e doc)
  digits_read e h d = go (there doc at)
    where
      go : There doc at → digits_r spaced at (drop at doc) ≡ reached (far_at spaced doc e) (squeezed (slice at e doc)) e (drop e doc)
      go (none_there q k) = absurd (clash d (rw k refl))
      go (byte_there q) =
          let b = peek doc at in
          let t = drop (suc at) doc in
          let k = tail spaced t in
          let z : e ≡ at + suc k = h ∙ rw (d, q, tail_digit spaced b t d) refl in
          let r : drop k t ≡ drop (at + suc k) doc = ap (drop (suc k)) (sym q) ∙ drop-drop (suc k) at doc in
          let v : b ∷ squeezed (take k t) ≡ squeezed (slice at (at + suc k) doc) =
          sym (squeeze_digit b (take k t) d) ∙ ap squeezed (ap (take (suc k)) (sym q) ∙ slice_at at (suc k) doc) in
          rw z
          (ap (digits_r spaced at) q
          ∙ (digits_list spaced at b t d
          ∙ reached_eq
          (far spaced (at + suc k) (drop k t))
          (far_at spaced doc (at + suc k))
          (at + suc k)
          (at + suc k)
          (ap (far spaced (at + suc k)) r ∙ far_at_lem spaced doc (at + suc k))
          v
          refl
          r))

  pub digits_none : is digit (peek doc at) ≡ false → digits_r spaced at (drop at doc) ≡ bad at
  unfolding digits_r
  digits_none d = go (there doc at)
    where
      go : There doc at → digits_r spaced at (drop at doc) ≡ bad at
      go (none_there q k) = rw q refl
      go (byte_there q) = rw (q, d) refl
