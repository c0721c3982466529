-- The loop over hex pairs, and `<..>` around them: laws for each turn and each return.
use mathlib.Core.Path.{◌≡◌, refl, sym, ap, ◌∙◌}
use mathlib.Core.List.{List, [], ◌∷◌, ◌++◌}
use mathlib.Core.Bool.{Bool, true, false}
use Prim.Native.Nat.{ℕ, ◌-◌, ◌<◌}
use native.Mathlib.Omega.{arith}
use lib.ListN.{length, drop, length-append}
use borrow.Author.Rules.{rules}
use Rattle.exact.specs.Class.{is}
use Rattle.exact.specs.Out.{Out, ok, soft, bad, bind, fmap, Reader}
use Rattle.exact.specs.Answers.{map_fmap, bind_same, fmap_none}
use Rattle.exact.specs.Block.{many_g, lead}
use Rattle.exact.specs.Lines.{soft_reached}
use Rattle.exact.specs.Place.{peek, byte_peek}
use Rattle.language.specs.Strings.{lowhex}
use Rattle.language.specs.Tree.{Decoded, unescaped}
use Rattle.strings.specs.Joining.{itself, lists}
use Rattle.rooms.specs.Told.{spot}
use Rattle.rooms.specs.declared.Cursor.{Cursor}
use Rattle.rooms.specs.Contract.{Ans}
use Rattle.std.specs.declared.result.Result.TheVariants.{Err, Ok}
use Rattle.rooms.specs.Contract.{Ready}
use Rattle.strings.specs.Bytes.{pair_r, further_r, further_ll, pairs_r, pairs_on}
use Rattle.strings.specs.Turns.{many_g_turn, many_g_stop}
use Rattle.strings.specs.Contract.{Texted, Texts, Spelt}
use Rattle.strings.specs.Inside.{Within}
use Rattle.strings.specs.Hexes.{pair_text_r, Further, Stopped, Furthers, PairsAt}
use Rattle.strings.proofs.TextLaws.{room_join, text_taken, text_refusal}
use Rattle.strings.proofs.HexLaws.{low_is, low_none}
use Rattle.strings.proofs.StringLaws.{within_none, extend, within_spot}

-- ---- answers of one byte

unlist : (o : Out ℕ) (w : Decoded) (a : ℕ) (t : List ℕ) → fmap (λ p. unescaped (p ∷ [])) o ≡ ok w a t → (v : ℕ) × (w ≡ unescaped (v ∷ [])) × (o ≡ ok v a t)
unlist (ok v a' t') w a t e = (v, cc, cc)
unlist (soft p v a' t') w a t e = let z : ◌≡◌ {A = ℕ} 0 1 = cc in absurd (omega arith)
unlist (bad p) w a t e = let z : ◌≡◌ {A = ℕ} 0 1 = cc in absurd (omega arith)

unbad : (o : Out ℕ) (q : ℕ) → fmap (λ p. unescaped (p ∷ [])) o ≡ bad q → o ≡ bad q
unbad (ok v a t) q e = let z : ◌≡◌ {A = ℕ} 0 1 = cc in absurd (omega arith)
unbad (soft p v a t) q e = let z : ◌≡◌ {A = ℕ} 0 1 = cc in absurd (omega arith)
unbad (bad p) q e = cc

abbrev many_p : Reader (List ℕ)
many_p = many_g pairs_on (lead 1) further_r

pairs_as : (at : ℕ) (s : List ℕ) → pairs_r at s ≡ bind (pair_r at s) (λ v a t. fmap (v ∷◌) (many_p a t))
unfolding pairs_r
pairs_as at s = bind_same (pair_r at s) _ _ (λ v a t. map_fmap (v ∷◌) (many_p a t))

-- ---- a turn

abbrev pub Pairing : List ℕ → Cursor → Cursor → List ℕ → List ℕ → Type 0
Pairing = Within unescaped ◌++◌ pairs_r

pub pairs_first : (doc : List ℕ) (c : Cursor) (T : List ℕ) → Ready doc c → Pairing doc c c T T
pairs_first doc c T ready = within_none unescaped ◌++◌ [] refl pairs_r doc c T (sym (fmap_none (pairs_r c.at (drop c.at doc)))) ready

module _ (doc : List ℕ) (s n : Cursor) (T₀ T : List ℕ) (w : Pairing doc s n T₀ T) (a : Ans) (T₁ : List ℕ) (h : Texts doc n (pair_text_r n.at (drop n.at doc)) a T T₁) where
  pub pairs_not : (q : ℕ) → a ≡ Err q → PairsAt doc s (Err q) T₀ T₁
  unfolding PairsAt
  pairs_not q e =
      let b = unbad (pair_r n.at (drop n.at doc)) q (text_refusal doc n _ T T₁ a q e h) in
      w.is ∙ ap (fmap (w.done ++◌)) (pairs_as n.at (drop n.at doc) ∙ ap (λ o. bind o (λ v a t. fmap (v ∷◌) (many_p a t))) b)

  module _ (m : Cursor) (e : a ≡ Ok m) where
    text : Texted itself doc n (pair_text_r n.at (drop n.at doc)) m 0 T T₁
    text = text_taken doc n _ T T₁ a m e h

    got : (v : ℕ) × (text.value ≡ unescaped (v ∷ [])) × (pair_r n.at (drop n.at doc) ≡ ok v m.at (drop m.at doc))
    got = unlist (pair_r n.at (drop n.at doc)) text.value m.at (drop m.at doc) text.is

    pairs_by : pairs_r n.at (drop n.at doc) ≡ fmap (got.0 ∷◌) (many_p m.at (drop m.at doc))
    pairs_by = pairs_as n.at (drop n.at doc) ∙ ap (λ o. bind o (λ v a t. fmap (v ∷◌) (many_p a t))) got.2

    module _ (f : Ans) (k : Furthers doc m f) where
      module _ (i : Cursor) (b : f ≡ Ok i) where
        further : Further doc m i
        unfolding Furthers
        further = rw b at k

        many_on : many_p m.at (drop m.at doc) ≡ pairs_r i.at (drop i.at doc)
        many_on =
            many_g_turn further_ll.exact.moves pairs_on (lead 1) refl m.at (drop m.at doc) further.on
            ∙ (ap (λ o. bind o (λ v a t. fmap (v ∷◌) (many_p a t))) further.is ∙ sym (pairs_as i.at (drop i.at doc)))

        pub pairs_turn : Pairing doc s i T₀ T₁
        pairs_turn =
            let x = text.spelt.few in
            let y = further.from in
            let z = further.inside in
            extend unescaped ◌++◌ lists pairs_r doc s n T₀ T w i (got.0 ∷ []) T₁ (pairs_by ∙ ap (fmap (got.0 ∷◌)) many_on) (omega arith) (further.row ∙ text.spelt.row)
            (further.text ∙ rw got.1 at text.spelt.end) (omega (arith, rw got.1 at text.spelt.few)) (omega arith) (rw got.1 at text.spelt.room)

        pub pairs_digit : is lowhex (peek doc i.at) ≡ true
        pairs_digit = further.digit

        pub pairs_less : length doc - i.at < length doc - n.at
        pairs_less = let x = text.spelt.ahead in let y = further.from in let z = further.inside in omega arith

      pub pairs_upto : (far : ℕ) → f ≡ Err far → PairsAt doc s (Ok (m, far)) T₀ T₁
      unfolding PairsAt Furthers
      pairs_upto far b =
          let g : Stopped doc m.at far = rw b at k in
          let x : Spelt doc n m (unescaped (got.0 ∷ [])) T T₁ = rw got.1 at text.spelt in
          let l = length-append w.done (got.0 ∷ []) in
          record {
            texted =
                record {
                  value = w.done ++ got.0 ∷ [];
                  is =
                      w.is
                      ∙ (ap (fmap (w.done ++◌)) (pairs_by ∙ ap (fmap (got.0 ∷◌)) (many_g_stop pairs_on (lead 1) further_r m.at (drop m.at doc) g.off))
                      ∙ (rw (← g.is) refl ∙ soft_reached far (w.done ++ got.0 ∷ []) m.at (drop m.at doc) (omega (arith, g.is, x.ahead))));
                  spelt =
                      record {
                        ahead = omega (arith, x.ahead, w.few);
                        inside = x.inside;
                        row = x.row ∙ w.row;
                        end = omega (arith, x.end, w.end);
                        few = omega (arith, x.few, w.few);
                        scant = omega (arith, x.scant, w.scant);
                        room = room_join T₀ T T₁ (spot s.text) (spot n.text) w.done (got.0 ∷ []) w.room (within_spot unescaped ◌++◌ lists pairs_r doc s n T₀ T w) x.room;
                      };
                };
            far_is = g.is;
          }

-- no digit
pub pairs_none : (doc : List ℕ) (c : Cursor) (T : List ℕ) (b : ℕ) (x : Bool) → b ≡ peek doc c.at → x ≡ is lowhex b → x ≡ false → PairsAt doc c (Err c.at) T T
unfolding PairsAt pair_r
pairs_none doc c T b x look k e =
    pairs_as c.at (drop c.at doc) ∙ rw (byte_peek doc c.at lowhex refl, low_none doc c.at b x look k e) refl

pub ruleset pairing_on = (pairs_first, pairs_not, pairs_turn, pairs_digit, pairs_less, pairs_upto, rules)

pub ruleset pairing_all = (low_is, pairs_none, rules)
