-- Laws of floats and integers at a place: from the parts to a number without its sign. Assumes nothing.
use mathlib.Core.Path.{◌≡◌, refl, sym, ap, ◌∙◌}
use mathlib.Core.List.{List, [], ◌∷◌, ◌++◌, append_assoc}
use mathlib.Core.Bool.{Bool, true}
use Prim.Native.Nat.{ℕ, ◌+◌, ◌≤◌, ◌<◌}
use native.Mathlib.Omega.{arith}
use lib.ListN.{length, drop}
use lib.Seq.{slice, slice_empty}
use Rattle.exact.specs.Class.{and, and_of, is, only}
use Rattle.exact.specs.Out.{Out, bind, ok}
use Rattle.exact.specs.Lang.{ret_r}
use Rattle.exact.specs.Comb.{seq_r, alt_r, option_r}
use Rattle.exact.specs.Lines.{reached, raised, bind_reached, raised_ok}
use Rattle.exact.specs.Place.{peek, peek_in, alt_peek, alt_is, alt_not}
use Rattle.language.specs.Kind.{INTEGER, FLOAT}
use Rattle.language.specs.Scalars.{digit, signed}
use Rattle.numbers.specs.declared.digits.Stretch.{Stretch}
use Rattle.numbers.specs.Contract.{Scanned}
use Rattle.std.specs.declared.result.Result.TheVariants.{Err}
use Rattle.numbers.specs.Same.{Found, found}
use Rattle.numbers.specs.Digits.{digits_r}
use Rattle.numbers.specs.Plain.{exponent_r, fraction_r, dotted_r, after_r, unsigned_r}
use Rattle.numbers.specs.Places.{squeezed, far_at}
use Rattle.numbers.specs.Numbers.{float, exponent_at, power_at, point_at}
use Rattle.numbers.specs.Contract.{Grouped, Other, Tight, an_integer, a_float, Powered, no_power, power, Ends, stops, goes, Scans, refused, integer, floated}
use Rattle.numbers.proofs.SqueezeLaws.{squeeze_join, squeeze_byte, tight_join, tight_none, tight_byte, tight_group}
use Rattle.numbers.proofs.ScanLaws.{raised_bad, raised_low, raised_twice, far_le, far_up, one_at, group_over, group_digit, group_read, group_bad}

-- ONE READER FOR ANOTHER: the bytes from at to at' are read before
module _ (spaced : Bool) (doc : List ℕ) (at at' : ℕ) (l : at ≤ at') (dense dense' : Bool) (r r' : List ℕ → List ℕ → Out Found)
    (h : (m w : List ℕ) → r m w ≡ r' m (w ++ squeezed (slice at at' doc))) (t : dense' ≡ true → (dense ≡ true) × Tight doc at at') where
  ends_back : {s : Scanned} → Ends spaced doc at' dense' r' s → Ends spaced doc at dense r s
  ends_back (stops p k i a) = stops p (omega arith) i (λ m w. h m w ∙ a m (w ++ squeezed (slice at at' doc)))
  ends_back (goes e q b k i a u) =
      goes e q b (omega arith) i
      (λ m w.
      h m w
      ∙ (a m (w ++ squeezed (slice at at' doc))
      ∙ ap
      (λ x. reached (far_at spaced doc q) (found FLOAT (m ++ x)) e (drop e doc))
      (append_assoc w (squeezed (slice at at' doc)) (squeezed (slice at' e doc)) ∙ ap (λ x. w ++ x) (squeeze_join doc at at' e l k))))
      (λ z. let y = u z in let v = t y.0 in (v.0, tight_join doc at at' e l k v.1 y.1))

-- .. to a whole number
module _ (spaced : Bool) (doc : List ℕ) (at at' : ℕ) (l : at < at') (dense : Bool) (r : List ℕ → List ℕ → Out Found)
    (h : (m : List ℕ) → unsigned_r spaced m at (drop at doc) ≡ r m (squeezed (slice at at' doc))) (t : dense ≡ true → Tight doc at at') where
  ends_whole : {s : Scanned} → Ends spaced doc at' dense r s → Scans spaced doc at s
  ends_whole (stops p k i a) = refused p i (λ m. h m ∙ a m (squeezed (slice at at' doc)))
  ends_whole (goes e q b k i a u) =
      floated e q b (omega arith) i
      (λ m.
      h m
      ∙ (a m (squeezed (slice at at' doc))
      ∙ ap (λ x. reached (far_at spaced doc q) (found FLOAT (m ++ x)) e (drop e doc)) (squeeze_join doc at at' e (omega arith) k)))
      (λ z. let y = u z in tight_join doc at at' e (omega arith) k (t y.0) y.1)

-- an exponent after digits that end at `last`
powered_ends : (spaced : Bool) (doc : List ℕ) (at last : ℕ) (dense : Bool) (r : List ℕ → List ℕ → Out Found) → last ≤ at
    → ((m w : List ℕ) → r m w ≡ raised (far_at spaced doc last) (exponent_at spaced doc at m w)) → {s : Scanned} → Powered spaced doc at dense s → Ends spaced doc at dense r s
powered_ends spaced doc at last dense r l h (no_power p k i a) =
    stops p (omega arith) i (λ m w. h m w ∙ (ap (raised (far_at spaced doc last)) (a m w) ∙ raised_bad (far_at spaced doc last) p (omega (arith, far_le spaced doc last))))
powered_ends spaced doc at last dense r l h (power e b k i a u) =
    goes e e b (omega arith) i
    (λ m w.
    h m w
    ∙ (ap (raised (far_at spaced doc last)) (a m w)
    ∙ raised_low
    (far_at spaced doc last)
    (far_at spaced doc e)
    (found FLOAT (m ++ (w ++ squeezed (slice at e doc))))
    e
    (drop e doc)
    (far_up spaced doc last e (omega arith))))
    u

-- AN EXPONENT OR NONE
module _ (spaced : Bool) (doc : List ℕ) (at last : ℕ) (dense : Bool) where
  pub power_some : {s : Scanned} → last ≤ at → 101 ≡ peek doc at → Powered spaced doc at dense s → Ends spaced doc at dense (power_at spaced doc last at) s
  unfolding power_at exponent_at
  power_some l h x =
      powered_ends spaced doc at last dense (power_at spaced doc last at) l
      (λ m w. ap (λ o. raised (far_at spaced doc last) (bind o (float m w))) (alt_is doc at 101 101 (omega arith) h (exponent_r spaced) (ret_r []) refl))
      x

  pub power_none : at ≤ length doc → (peek doc at ≡ 101 → ⊥) → Ends spaced doc at dense (power_at spaced doc last at) (a_float at last dense)
  unfolding power_at squeezed
  power_none i n =
      goes at last dense (omega arith) i
      (λ m w.
      ap (λ o. raised (far_at spaced doc last) (bind o (float m w))) (alt_not doc at 101 (peek doc at) (omega arith) refl (exponent_r spaced) (ret_r []) n)
      ∙ (raised_ok (far_at spaced doc last) (found FLOAT (m ++ (w ++ []))) at (drop at doc) ∙ rw (slice_empty at doc) refl))
      (λ z. (z, tight_none doc at))

-- A POINT
module _ (spaced : Bool) (doc : List ℕ) (at : ℕ) (h : 46 ≡ peek doc at) where
  point_in : at < length doc
  point_in = peek_in doc at 46 h (omega arith)

  pub point_inside : at + 1 ≤ length doc
  point_inside = let i = point_in in omega arith

  point_no_space : ◌≡◌ {A = ℕ} 46 32 → ⊥
  point_no_space e = omega arith

  point_text : squeezed (slice at (at + 1) doc) ≡ 46 ∷ []
  point_text = squeeze_byte doc at 46 h point_no_space point_in

  point_tight : Tight doc at (at + 1)
  point_tight = tight_byte doc at 46 h point_no_space point_in

  -- with digits behind it
  digits_text : (e : ℕ) → at + 1 ≤ e → 46 ∷ squeezed (slice (at + 1) e doc) ≡ squeezed (slice at e doc)
  digits_text e l = ap (λ u. u ++ squeezed (slice (at + 1) e doc)) (sym point_text) ∙ squeeze_join doc at (at + 1) e (omega arith) l

  digits_tight : (e : ℕ) → at + 1 ≤ e → Tight doc (at + 1) e → Tight doc at e
  digits_tight e l t = tight_join doc at (at + 1) e (omega arith) l point_tight t

  abbrev behind : List ℕ → List ℕ → List ℕ → ℕ → List ℕ → Out Found
  behind m w fs = seq_r (option_r (only 101) (exponent_r spaced)) (float m ((w ++ (46 ∷ [])) ++ fs))

  dotted_by : (m w : List ℕ) → dotted_r spaced m w at (drop at doc) ≡ bind (option_r digit (digits_r spaced) (at + 1) (drop (at + 1) doc)) (behind m w)
  unfolding dotted_r
  dotted_by m w =
      ap
      (λ o. bind o (λ p. seq_r (option_r digit (digits_r spaced)) λ fs. seq_r (option_r (only 101) (exponent_r spaced)) λ x. ret_r (found FLOAT (m ++ ((w ++ p ++ fs) ++ x)))))
      (one_at doc at 46 (omega arith) h)

  module _ (g : Stretch) (x : Grouped spaced doc (at + 1) g) (dense : Bool) where
    maybe_none : g.end.at ≡ at + 1 → option_r digit (digits_r spaced) (at + 1) (drop (at + 1) doc) ≡ ok [] (at + 1) (drop (at + 1) doc)
    maybe_none n = alt_peek doc (at + 1) digit refl (digits_r spaced) (ret_r []) ∙ rw (group_over spaced doc (at + 1) g x n) refl

    maybe_some : (g.end.at ≡ at + 1 → ⊥)
        → option_r digit (digits_r spaced) (at + 1) (drop (at + 1) doc)
        ≡ reached (far_at spaced doc g.end.at) (squeezed (slice (at + 1) g.end.at doc)) g.end.at (drop g.end.at doc)
    maybe_some n = alt_peek doc (at + 1) digit refl (digits_r spaced) (ret_r []) ∙ rw (group_digit spaced doc (at + 1) g x n) (group_read spaced doc (at + 1) g x n)

    pub point_none : {s : Scanned} → g.end.at ≡ at + 1 → Ends spaced doc (at + 1) dense (power_at spaced doc at (at + 1)) s → Ends spaced doc at dense (point_at spaced doc at) s
    unfolding point_at power_at
    point_none n =
        ends_back spaced doc at (at + 1) (omega arith) dense dense (point_at spaced doc at) (power_at spaced doc at (at + 1))
        (λ m w.
        ap
        (raised (far_at spaced doc at))
        (dotted_by m w
        ∙ (ap (λ o. bind o (behind m w)) (maybe_none n)
        ∙ ap
        (λ u. seq_r (option_r (only 101) (exponent_r spaced)) (float m u) (at + 1) (drop (at + 1) doc))
        (append_assoc w (46 ∷ []) [] ∙ ap (λ u. w ++ u) (sym point_text)))))
        (λ z. (z, point_tight))

    pub point_some : {s : Scanned} (b : Bool) → (g.end.at ≡ at + 1 → ⊥) → b ≡ and dense g.dense
        → Ends spaced doc g.end.at b (power_at spaced doc g.end.at g.end.at) s → Ends spaced doc at dense (point_at spaced doc at) s
    unfolding point_at power_at
    point_some b n z =
        let e = g.end.at in
        let f = far_at spaced doc e in
        let l : at + 1 ≤ e = x.ahead in
        ends_back spaced doc at e (omega arith) dense b (point_at spaced doc at) (power_at spaced doc e e)
        (λ m w.
        ap
        (raised (far_at spaced doc at))
        (dotted_by m w
        ∙ (ap (λ o. bind o (behind m w)) (maybe_some n)
        ∙ bind_reached f (squeezed (slice (at + 1) e doc)) e (drop e doc) (behind m w)))
        ∙ (raised_twice (far_at spaced doc at) f (behind m w (squeezed (slice (at + 1) e doc)) e (drop e doc)) (far_up spaced doc at e (omega arith))
        ∙ ap
        (λ u. raised f (seq_r (option_r (only 101) (exponent_r spaced)) (float m u) e (drop e doc)))
        (append_assoc w (46 ∷ []) (squeezed (slice (at + 1) e doc)) ∙ ap (λ u. w ++ u) (digits_text e l))))
        (λ t. let u = and_of dense g.dense (sym z ∙ t) in (u.0, digits_tight e l (tight_group doc spaced (at + 1) g x u.1)))

  -- with no digits before it
  led_by : (m : List ℕ) → unsigned_r spaced m at (drop at doc) ≡ bind (digits_r spaced (at + 1) (drop (at + 1) doc)) (λ fs. seq_r (option_r (only 101) (exponent_r spaced)) (float m (46 ∷ fs)))
  unfolding unsigned_r fraction_r
  led_by m =
      alt_is doc at 46 46 (omega arith) h (fraction_r spaced m) (seq_r (digits_r spaced) (after_r spaced m)) refl
      ∙ ap
      (λ o. bind o (λ p. seq_r (digits_r spaced) λ fs. seq_r (option_r (only 101) (exponent_r spaced)) λ x. ret_r (found FLOAT (m ++ ((p ++ fs) ++ x)))))
      (one_at doc at 46 (omega arith) h)

  module _ (g : Stretch) (x : Grouped spaced doc (at + 1) g) where
    pub point_alone : g.end.at ≡ at + 1 → Scans spaced doc at (Err (at + 1))
    point_alone n =
        refused (at + 1) point_inside
        (λ m. led_by m ∙ ap (λ o. bind o (λ fs. seq_r (option_r (only 101) (exponent_r spaced)) (float m (46 ∷ fs)))) (group_bad spaced doc (at + 1) g x n))

    pub point_first : {s : Scanned} → (g.end.at ≡ at + 1 → ⊥) → Ends spaced doc g.end.at g.dense (power_at spaced doc g.end.at g.end.at) s → Scans spaced doc at s
    unfolding power_at
    point_first n =
        let e = g.end.at in
        let f = far_at spaced doc e in
        let l : at + 1 ≤ e = x.ahead in
        ends_whole spaced doc at e (omega arith) g.dense (power_at spaced doc e e)
        (λ m.
        led_by m
        ∙ (ap (λ o. bind o (λ fs. seq_r (option_r (only 101) (exponent_r spaced)) (float m (46 ∷ fs)))) (group_read spaced doc (at + 1) g x n)
        ∙ (bind_reached f (squeezed (slice (at + 1) e doc)) e (drop e doc) (λ fs. seq_r (option_r (only 101) (exponent_r spaced)) (float m (46 ∷ fs)))
        ∙ ap (λ u. raised f (seq_r (option_r (only 101) (exponent_r spaced)) (float m u) e (drop e doc))) (digits_text e l))))
        (λ t. digits_tight e l (tight_group doc spaced (at + 1) g x t))

-- A NUMBER THAT BEGINS WITH NO POINT
module _ (spaced : Bool) (doc : List ℕ) (at : ℕ) (o : Other doc at 46) (g : Stretch) (x : Grouped spaced doc at g) where
  digits_by : (m : List ℕ) → unsigned_r spaced m at (drop at doc) ≡ bind (digits_r spaced at (drop at doc)) (after_r spaced m)
  unfolding unsigned_r
  digits_by m = alt_not doc at 46 (peek doc at) (omega arith) refl (fraction_r spaced m) (seq_r (digits_r spaced) (after_r spaced m)) o.not

  pub digits_none : at ≤ length doc → g.end.at ≡ at → Scans spaced doc at (Err at)
  digits_none i n = refused at i (λ m. digits_by m ∙ ap (λ o. bind o (after_r spaced m)) (group_bad spaced doc at g x n))

  module _ (n : g.end.at ≡ at → ⊥) where
    digits_ahead : at < g.end.at
    digits_ahead = omega (arith, x.ahead)

    -- behind the digits
    digits_after : (m : List ℕ) → unsigned_r spaced m at (drop at doc) ≡ raised (far_at spaced doc g.end.at) (after_r spaced m (squeezed (slice at g.end.at doc)) g.end.at (drop g.end.at doc))
    digits_after m =
        digits_by m
        ∙ (ap (λ o. bind o (after_r spaced m)) (group_read spaced doc at g x n)
        ∙ bind_reached (far_at spaced doc g.end.at) (squeezed (slice at g.end.at doc)) g.end.at (drop g.end.at doc) (after_r spaced m))

    abbrev rest : List ℕ → List ℕ → ℕ → List ℕ → Out Found
    rest m w = alt_r (is (only 101)) (seq_r (exponent_r spaced) (float m w)) (ret_r (found INTEGER (signed m w)))

    pub digits_point : {s : Scanned} → 46 ≡ peek doc g.end.at → Ends spaced doc g.end.at g.dense (point_at spaced doc g.end.at) s → Scans spaced doc at s
    unfolding after_r point_at
    digits_point z =
        let e = g.end.at in
        ends_whole spaced doc at e digits_ahead g.dense (point_at spaced doc e)
        (λ m.
        let w = squeezed (slice at e doc) in
        digits_after m ∙ ap (raised (far_at spaced doc e)) (alt_is doc e 46 46 (omega arith) z (dotted_r spaced m w) (rest m w) refl))
        (λ t. tight_group doc spaced at g x t)

    module _ (z : peek doc g.end.at ≡ 46 → ⊥) where
      pub digits_power : {s : Scanned} → 101 ≡ peek doc g.end.at → Powered spaced doc g.end.at g.dense s → Scans spaced doc at s
      unfolding after_r exponent_at
      digits_power y p =
          let e = g.end.at in
          let r : List ℕ → List ℕ → Out Found = λ m w. raised (far_at spaced doc e) (exponent_at spaced doc e m w) in
          ends_whole spaced doc at e digits_ahead g.dense r
          (λ m.
          let w = squeezed (slice at e doc) in
          digits_after m
          ∙ ap
          (raised (far_at spaced doc e))
          (alt_not doc e 46 (peek doc e) (omega arith) refl (dotted_r spaced m w) (rest m w) z
          ∙ alt_is doc e 101 101 (omega arith) y (seq_r (exponent_r spaced) (float m w)) (ret_r (found INTEGER (signed m w))) refl))
          (λ t. tight_group doc spaced at g x t)
          (powered_ends spaced doc e e g.dense r (omega arith) (λ m w. refl) p)

      pub digits_alone : (peek doc g.end.at ≡ 101 → ⊥) → Scans spaced doc at (an_integer g.end.at g.dense)
      unfolding after_r
      digits_alone y =
          let e = g.end.at in
          integer e g.dense digits_ahead x.inside
          (λ m.
          let w = squeezed (slice at e doc) in
          digits_after m
          ∙ (ap
          (raised (far_at spaced doc e))
          (alt_not doc e 46 (peek doc e) (omega arith) refl (dotted_r spaced m w) (rest m w) z
          ∙ alt_not doc e 101 (peek doc e) (omega arith) refl (seq_r (exponent_r spaced) (float m w)) (ret_r (found INTEGER (signed m w))) y)
          ∙ raised_ok (far_at spaced doc e) (found INTEGER (signed m w)) e (drop e doc)))
          (λ t. tight_group doc spaced at g x t)
          (x.solid n)
