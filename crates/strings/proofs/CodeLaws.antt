-- Laws of the digits of `\u{..}`, as the loop over them meets them.
use mathlib.Core.Path.{◌≡◌, refl, sym, ap, ◌∙◌}
use mathlib.Core.List.{List, [], ◌∷◌, ◌++◌, append-nil}
use mathlib.Core.Bool.{Bool, true, false}
use Prim.Native.Nat.{ℕ, zero, suc, ◌+◌, ◌-◌, ◌*◌, ◌/◌, ◌%◌, ◌^◌, ◌≤◌, ◌<◌}
use native.Mathlib.Omega.{arith}
use native.Mathlib.Decide.{dec_le}
use lib.ListN.{length, take, drop}
use lib.Seq.{slice, slice_empty, drop-cons, take-suc, drop-append-le, length-take-le}
use lib.Dec.{leb}
use borrow.Author.Rules.{rules}
use borrow.Author.Tests.{le-leb, lt-leb}
use Rattle.exact.specs.Class.{pick, clash, or, and, is}
use Rattle.exact.specs.Out.{ok, bad, fmap}
use Rattle.exact.specs.Answers.{fmap_none, fmap_join}
use Rattle.exact.specs.Run.{run_l, run_r}
use Rattle.exact.specs.Place.{peek, There, byte_there, none_there, there}
use Rattle.language.specs.Characters.{utf8}
use Rattle.language.specs.Strings.{hexdigit, hexval, hex_number, scalar}
use Rattle.characters.specs.declared.Reading.{Reading}
use Rattle.strings.specs.Contract.{Digit}
use Rattle.std.specs.declared.option.Option.TheVariants.{None, Some}
use Rattle.std.specs.declared.result.Result.TheVariants.{Err, Ok}
use Rattle.strings.specs.Code.{scalar_top, num, bust, grow, named, begins, code_r}
use Rattle.strings.proofs.DigitLaws.{hexval_low, digited, undigited, class_in, scalar_high}
use Rattle.strings.specs.Contract.{Digited, DigitRead, state, bound, Digits, Halts, CodeAt}

-- ---- the bounds

bound_least : (n : ℕ) → n ≤ 5 → bound n ≤ 1048576
unfolding bound
bound_least zero l = omega arith
bound_least (suc zero) l = omega arith
bound_least (suc (suc zero)) l = omega arith
bound_least (suc (suc (suc zero))) l = omega arith
bound_least (suc (suc (suc (suc zero)))) l = omega arith
bound_least (suc (suc (suc (suc (suc zero))))) l = omega arith
bound_least (suc (suc (suc (suc (suc (suc n)))))) l = absurd (omega arith)

pub utf8_most : (v : ℕ) → length (utf8 v) ≤ 4
utf8_most v = by (leb v 127) (leb v 2047) (leb v 65535)
  where
    by : (x y z : Bool) → length (pick x (v ∷ []) (pick y ((192 + v / 64) ∷ (128 + v % 64) ∷ []) (pick z ((224 + v / 4096) ∷ (128 + v / 64 % 64) ∷ (128 + v % 64) ∷ []) ((240 + v / 262144) ∷ (128 + v / 4096 % 64) ∷ (128 + v / 64 % 64) ∷ (128 + v % 64) ∷ [])))) ≤ 4
    by true y z = omega arith
    by false true z = omega arith
    by false false true = omega arith
    by false false false = omega arith

-- a number of n digits has at most n bytes in UTF-8
utf8_few : (n v : ℕ) → 0 < n → v < bound n → length (utf8 v) ≤ n
unfolding bound
utf8_few zero v l h = absurd (omega arith)
utf8_few (suc zero) v l h = rw (le-leb v 127 (omega arith)) (omega arith)
utf8_few (suc (suc zero)) v l h = by (dec_le v 127)
  where
    by : Dec (v ≤ 127) → length (utf8 v) ≤ 2
    by (yes x) = rw (le-leb v 127 x) (omega arith)
    by (no x) = rw (lt-leb v 127 (omega arith), le-leb v 2047 (omega arith)) (omega arith)
utf8_few (suc (suc (suc zero))) v l h = by (dec_le v 127) (dec_le v 2047)
  where
    by : Dec (v ≤ 127) → Dec (v ≤ 2047) → length (utf8 v) ≤ 3
    by (yes x) y = rw (le-leb v 127 x) (omega arith)
    by (no x) (yes y) = rw (lt-leb v 127 (omega arith), le-leb v 2047 y) (omega arith)
    by (no x) (no y) = rw (lt-leb v 127 (omega arith), lt-leb v 2047 (omega arith), le-leb v 65535 (omega arith)) (omega arith)
utf8_few (suc (suc (suc (suc n)))) v l h = let m = utf8_most v in omega arith

-- ---- a digit more, and none

grow_state : (n v b : ℕ) → n ≤ 5 → v < bound n → is hexdigit b ≡ true → grow (state n v) b ≡ state (suc n) (16 * v + hexval b)
unfolding bound state
grow_state zero v b l k e = let z : 16 * v + hexval b ≡ hexval b = omega arith in rw (e, z) refl
grow_state (suc n) v b l k e = rw (e, le-leb (suc n) 5 l) refl

alive : (n v : ℕ) → suc n ≤ 5 → v < bound (suc n) → begins (state (suc n) v) ≡ true
unfolding state
alive n v l k = by (scalar v) refl (dec_le v 57343)
  where
    top : v < 1048576
    top = let b = bound_least (suc n) l in omega arith

    by : (x : Bool) → scalar v ≡ x → Dec (v ≤ 57343) → or x (and (leb v 57343) (leb (suc n) 5)) ≡ true
    by true e d = refl
    by false e (yes h) = rw (le-leb v 57343 h, le-leb (suc n) 5 l) refl
    by false e (no h) = absurd (clash (sym (scalar_high v (omega arith)) ∙ le-leb v 1114111 (omega (arith, top))) e)

no_grow : (n v b : ℕ) → is hexdigit b ≡ false → begins (grow (state n v) b) ≡ false
unfolding state
no_grow zero v b e = rw e refl
no_grow (suc n) v b e = rw e refl

run_on : (n v b e : ℕ) (s : List ℕ) → suc n ≤ 5 → v < bound n → is hexdigit b ≡ true
    → run_l grow named begins (b ∷ s) (state n v) e ≡ fmap (b ∷◌) (run_l grow named begins s (state (suc n) (16 * v + hexval b)) (suc e))
unfolding bound
run_on n v b e s l k h =
    let g = grow_state n v b (omega arith) k h in
    let a = alive n (16 * v + hexval b) l (let z = hexval_low b h in omega arith) in
    rw (g, a) refl

run_halt : (n v b e : ℕ) (s : List ℕ) → begins (grow (state n v) b) ≡ false → run_l grow named begins (b ∷ s) (state n v) e ≡ pick (named (state n v)) (ok [] e (b ∷ s)) (bad e)
run_halt n v b e s h = rw h refl

-- ---- the digits at a place of a document

hex_in : (doc : List ℕ) (e : ℕ) → is hexdigit (peek doc e) ≡ true → (e < length doc) × (drop e doc ≡ peek doc e ∷ drop (suc e) doc)
hex_in doc e h = let l = class_in hexdigit doc e refl h in (l, drop-cons doc e 256 l)

slice_snoc : (doc : List ℕ) (at e : ℕ) → at ≤ e → e < length doc → slice at (suc e) doc ≡ slice at e doc ++ (peek doc e ∷ [])
slice_snoc doc at e h k =
    ap (drop at) (take-suc doc e 256 k) ∙ drop-append-le at (take e doc) (peek doc e ∷ []) (let z = length-take-le e doc (omega arith) in omega arith)

number_snoc : (u : List ℕ) (v b : ℕ) → hex_number v (u ++ b ∷ []) ≡ 16 * hex_number v u + hexval b
unfolding hex_number
number_snoc [] v b = refl
number_snoc (d ∷ u) v b = number_snoc u (16 * v + hexval d) b

module _ (doc : List ℕ) (at : ℕ) where
  pub digits_first : at ≤ length doc → Digits doc at at 0
  unfolding bound state hex_number
  digits_first l =
      let z : at - at ≡ 0 = omega arith in
      let n : slice at at doc ≡ [] = slice_empty at doc in
      record {
        from = omega arith;
        inside = l;
        five = omega arith;
        low = rw z (omega arith);
        top = omega arith;
        number = rw n refl;
        is = rw (n, z) (sym (fmap_none (code_r at (drop at doc))));
      }

  module _ (e v : ℕ) (g : Digits doc at e v) (r : Digit) (there_is : DigitRead hexdigit doc e r) where
    pub halts_none : r ≡ None → Halts doc at e v
    unfolding Halts
    halts_none h = by (there doc e)
      where
        none : is hexdigit (peek doc e) ≡ false
        none = undigited hexdigit doc e r there_is h

        by : There doc e → run_r grow named begins (state (e - at) v) e (drop e doc) ≡ pick (named (state (e - at) v)) (ok [] e (drop e doc)) (bad e)
        by (byte_there p) = rw p (run_halt (e - at) v (peek doc e) e (drop (suc e) doc) (no_grow (e - at) v (peek doc e) none))
        by (none_there p q) = rw p refl

    module _ (d : ℕ) (m : Reading) (k : r ≡ Some (d, m)) where
      x : Digited hexdigit doc e d m.at
      x = digited hexdigit doc e r there_is d m k

      pub digit_fits : 16 * v + d < 2 ^ 32
      digit_fits = omega (arith, g.top, x.small)

      pub digits_more : (e ≡ at + 5 → ⊥) → Digits doc at m.at (16 * v + d)
      unfolding bound
      digits_more n =
          let l : e < at + 5 = omega (arith, g.five, n) in
          let i = hex_in doc e x.digit in
          let y : m.at ≡ suc e = omega (arith, x.next) in
          let z : suc e - at ≡ suc (e - at) = omega (arith, g.from) in
          let t : slice at (suc e) doc ≡ slice at e doc ++ (peek doc e ∷ []) = slice_snoc doc at e g.from i.0 in
          let r = run_on (e - at) v (peek doc e) e (drop (suc e) doc) (omega (arith, g.from)) g.low x.digit in
          rw y
          (record {
            from = omega (arith, g.from);
            inside = omega (arith, i.0);
            five = omega arith;
            low = rw z (omega (arith, g.low, x.small));
            top = let u = bound_least (suc (e - at)) (omega (arith, g.from)) in omega (arith, g.low, x.small);
            number = ap (hex_number 0) t ∙ (number_snoc (slice at e doc) 0 (peek doc e) ∙ rw (g.number, x.value) refl);
            is =
                g.is
                ∙ (ap (λ o. fmap (slice at e doc ++◌) o) (ap (λ s. run_r grow named begins (state (e - at) v) e s) i.1 ∙ r)
                ∙ (fmap_join (slice at e doc) (peek doc e ∷ []) (run_r grow named begins (state (suc (e - at)) (16 * v + hexval (peek doc e))) (suc e) (drop (suc e) doc)) ∙ rw (t, z, x.value) refl));
          })

      pub digits_less : (e ≡ at + 5 → ⊥) → at + 5 - m.at < at + 5 - e
      digits_less n = omega (arith, x.next, g.five, n)

      -- five digits, and a sixth
      module _ (five : e ≡ at + 5) where
        five_state : state (e - at) v ≡ num 5 v
        unfolding state
        five_state = let z : e - at ≡ 5 = omega arith in rw z refl

        grown : grow (state (e - at) v) (peek doc e) ≡ num 6 (16 * v + d)
        grown = rw (five_state, x.digit, x.value) refl

        six : begins (grow (state (e - at) v) (peek doc e)) ≡ scalar (16 * v + d)
        six = rw grown (no_more (scalar (16 * v + d)) (leb (16 * v + d) 57343))
          where
            no_more : (x y : Bool) → or x (and y false) ≡ x
            no_more true y = refl
            no_more false true = refl
            no_more false false = refl

        pub halts_sixth : (y : Bool) → y ≡ scalar (16 * v + d) → y ≡ false → Halts doc at e v
        unfolding Halts
        halts_sixth y p q =
            let h = sym p ∙ q in
            let i = hex_in doc e x.digit in
            rw i.1 (run_halt (e - at) v (peek doc e) e (drop (suc e) doc) (six ∙ h))

        full : (s : List ℕ) → scalar (16 * v + d) ≡ true → run_l grow named begins s (num 6 (16 * v + d)) (suc e) ≡ ok [] (suc e) s
        full [] h = rw h refl
        full (b ∷ s) h = rw (over (is hexdigit b), h) refl
          where
            over : (x : Bool) → begins (pick (and x false) (num 7 (16 * (16 * v + d) + hexval b)) bust) ≡ false
            over true = refl
            over false = refl

        pub code_sixth : (y : Bool) → y ≡ scalar (16 * v + d) → y ≡ true → CodeAt doc at (Ok (16 * v + d, m))
        unfolding CodeAt
        code_sixth y p q =
            let h = sym p ∙ q in
            let i = hex_in doc e x.digit in
            let n : m.at ≡ suc e = omega (arith, x.next) in
            rw n
            (record {
              digits = slice at e doc ++ (peek doc e ∷ []);
              is = g.is ∙ rw (i.1, six, h, grown, full (drop (suc e) doc) h) refl;
              number = number_snoc (slice at e doc) 0 (peek doc e) ∙ rw (g.number, x.value) refl;
              top = let t = scalar_top (16 * v + d) h in omega arith;
              ahead = omega (arith, g.from);
              inside = omega (arith, i.0);
              few = let u = utf8_most (16 * v + d) in omega arith;
            })

-- ---- the end

module _ (doc : List ℕ) (at : ℕ) (m : Reading) (v : ℕ) (g : Digits doc at m.at v) (h : Halts doc at m.at v) where
  halted : code_r at (drop at doc) ≡ fmap (slice at m.at doc ++◌) (pick (named (state (m.at - at) v)) (ok [] m.at (drop m.at doc)) (bad m.at))
  unfolding Halts
  halted = g.is ∙ ap (fmap (slice at m.at doc ++◌)) h

  pub code_empty : m.at ≡ at → CodeAt doc at (Err m.at)
  unfolding CodeAt state
  code_empty z = let y : m.at - at ≡ 0 = omega arith in halted ∙ rw y refl

  some_state : (m.at ≡ at → ⊥) → named (state (m.at - at) v) ≡ scalar v
  unfolding state
  some_state n = let y : m.at - at ≡ suc (m.at - at - 1) = omega (arith, g.from, n) in rw y refl

  pub code_unnamed : (m.at ≡ at → ⊥) → (x : Bool) → x ≡ scalar v → x ≡ false → CodeAt doc at (Err m.at)
  unfolding CodeAt
  code_unnamed n x y z = halted ∙ rw (some_state n, ← y, z) refl

  pub code_named : (m.at ≡ at → ⊥) → (x : Bool) → x ≡ scalar v → x ≡ true → CodeAt doc at (Ok (v, m))
  unfolding CodeAt
  code_named n x y z =
      record {
        digits = slice at m.at doc ++ [];
        is = halted ∙ rw (some_state n, ← y, z) refl;
        number = rw (append-nil (slice at m.at doc)) g.number;
        top = omega (arith, g.top);
        ahead = omega (arith, g.from, n);
        inside = g.inside;
        few = let u = utf8_few (m.at - at) v (omega (arith, g.from, n)) g.low in omega (arith, g.from);
      }

pub ruleset codes = (digits_first, digit_fits, digits_more, digits_less, halts_none, halts_sixth, code_sixth, code_empty, code_unnamed, code_named, rules)
