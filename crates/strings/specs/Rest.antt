-- What is left of a string behind its quote: piece after piece, and runs of plain bytes at once.
use Rattle.std.specs.Prelude.{◌≡◌, Bool}
use Rattle.std.proofs.Math.Path.{refl, sym, ap}
use Rattle.std.proofs.Common.{◌∙◌, add-zero, add-one, drop-drop}
use mathlib.Core.List.{List, [], ◌∷◌}
use Rattle.std.proofs.Math.Bool.{true, false}
use Prim.Native.Nat.{ℕ, suc, ◌+◌, ◌<◌}
use native.Mathlib.Omega.{arith}
use Rattle.std.proofs.Math.ListN.{take, drop}
use Rattle.std.proofs.Math.Seq.{slice}
use Rattle.exact.specs.Class.{pick, clash, Class, is, only, apart, sub, left, right, only_is, only_no, is_neither, apart_no}
use Rattle.exact.specs.Out.{Out, ok, soft, bad, Reader, raise, bind, fmap, Tame}
use Rattle.exact.specs.Lang.{ret_r, byte_r, ret_exact}
use Rattle.exact.specs.Answers.{raise_bind, raise_fmap, bind_ret}
use Rattle.exact.specs.Comb.{seq_r, many_r, alt_tame, seq_tame}
use Rattle.exact.specs.Place.{peek, There, byte_there, none_there, there, run, run_end, many_run, run_end_lem, peek_cons}
use Rattle.language.specs.Characters.{ascii}
use Rattle.language.specs.Tree.{Decoded, unescaped, ◌then◌, together}
use Rattle.utf8.specs.Char.{char_s}
use Rattle.utf8.proofs.CharLaws.{char_ll}
use Rattle.strings.specs.Quoted.{piece_r, piece_s}
use Rattle.strings.specs.Turns.{many_turn}
use Rattle.strings.specs.Joining.{then_none, then_join}
use Rattle.strings.specs.Plain.{char_first, char_plain, char_none}

-- pieces, and the quote
unfoldable pub rest_r : ℕ → Reader Decoded → Class → Reader Decoded
rest_r quote r others = seq_r (many_r (is (piece_s others).first) (piece_r r others)) λ ps. seq_r (byte_r (is (only quote))) λ _. ret_r (together ps)

module _ (quote : ℕ) where
  abbrev close_r : List Decoded → Reader Decoded
  close_r ps = seq_r (byte_r (is (only quote))) λ _. ret_r (together ps)

  close_join : (v : Decoded) (o : Out (List Decoded)) → bind (fmap (v ∷◌) o) close_r ≡ fmap (v then◌) (bind o close_r)
  close_join v (ok ps a t) = bind_ret (v then◌) (byte_r (is (only quote)) a t) (together ps)
  close_join v (soft p ps a t) = ap (raise p) (bind_ret (v then◌) (byte_r (is (only quote)) a t) (together ps)) ∙ raise_fmap (v then◌) p (close_r ps a t)
  close_join v (bad p) = refl

  turn_join : (o : Out Decoded) (q : Reader (List Decoded))
      → bind (bind o (λ v a t. fmap (v ∷◌) (q a t))) close_r ≡ bind o (λ v a t. fmap (v then◌) (bind (q a t) close_r))
  turn_join (ok v a t) q = close_join v (q a t)
  turn_join (soft p v a t) q = raise_bind p (fmap (v ∷◌) (q a t)) close_r ∙ ap (raise p) (close_join v (q a t))
  turn_join (bad p) q = refl

-- the bytes of a run
pub run_slice : (c : Class) (doc : List ℕ) (at : ℕ) → take (run c (drop at doc)) (drop at doc) ≡ slice at (run_end c doc at) doc
run_slice c doc at = let p = many_run c at (drop at doc) in let q = run_end_lem c doc at in cc

-- ---- one piece more

module _ (quote : ℕ) (r : Reader Decoded) (others : Class) (tame : Tame 1 r) where
  piece_tame : Tame 1 (piece_r r others)
  piece_tame = alt_tame (is (only 92)) tame (seq_tame (char_ll others).exact.moves (λ c. (ret_exact (unescaped c)).moves))

  pub rest_turn : (at b : ℕ) (s : List ℕ) → is (piece_s others).first b ≡ true
      → rest_r quote r others at (b ∷ s) ≡ bind (piece_r r others at (b ∷ s)) (λ v a t. fmap (v then◌) (rest_r quote r others a t))
  unfolding rest_r
  rest_turn at b s e =
      ap (λ o. bind o (close_r quote)) (many_turn piece_tame (is (piece_s others).first) at b s e)
      ∙ turn_join quote (piece_r r others at (b ∷ s)) (many_r (is (piece_s others).first) (piece_r r others))

  -- .. where the quote does not stand
  pub rest_at : (doc : List ℕ) (at : ℕ) → (peek doc at ≡ quote → ⊥)
      → rest_r quote r others at (drop at doc) ≡ bind (piece_r r others at (drop at doc)) (λ v a t. fmap (v then◌) (rest_r quote r others a t))
  unfolding rest_r
  rest_at doc at n = go (there doc at)
    where
      s : List ℕ
      s = drop (suc at) doc

      off : is (piece_s others).first (peek doc at) ≡ false → is (only 92) (peek doc at) ≡ false
      off e = by (is (only 92) (peek doc at)) refl
        where
          by : (x : Bool) → is (only 92) (peek doc at) ≡ x → x ≡ false
          by true x = absurd (clash (left (only 92) (char_s others).first (peek doc at) x) e)
          by false x = refl

      by : (x : Bool) → is (piece_s others).first (peek doc at) ≡ x
          → rest_r quote r others at (peek doc at ∷ s) ≡ bind (piece_r r others at (peek doc at ∷ s)) (λ v a t. fmap (v then◌) (rest_r quote r others a t))
      by true e = rest_turn at (peek doc at) s e
      by false e =
          let z : piece_r r others at (peek doc at ∷ s) ≡ bad at = rw (off e) (ap (λ o. bind o (λ c. ret_r (unescaped c))) (char_none others at (peek doc at) s (is_neither (only 92) (char_s others).first (peek doc at) e))) in
          rw (e, only_no quote (peek doc at) n, z) refl

      go : There doc at → rest_r quote r others at (drop at doc) ≡ bind (piece_r r others at (drop at doc)) (λ v a t. fmap (v then◌) (rest_r quote r others a t))
      go (byte_there h) = rw h (by (is (piece_s others).first (peek doc at)) refl)
      go (none_there h k) = rw h refl

  -- a run of plain bytes
  module _ (low : sub others ascii ≡ true) (dark : apart others (only 92) ≡ true) where
    plain_turn : (at b : ℕ) (s : List ℕ) → is others b ≡ true → rest_r quote r others at (b ∷ s) ≡ fmap (unescaped (b ∷ []) then◌) (rest_r quote r others (suc at) s)
    plain_turn at b s e =
        let n : is (only 92) b ≡ false = apart_no others (only 92) b dark e in
        let z : piece_r r others at (b ∷ s) ≡ ok (unescaped (b ∷ [])) (suc at) s = rw n (ap (λ o. bind o (λ c. ret_r (unescaped c))) (char_plain others low b e at s)) in
        rest_turn at b s (right (only 92) (char_s others).first b (char_first others low b e)) ∙ rw z refl

    run_rest : (at : ℕ) (s : List ℕ) → rest_r quote r others at s ≡ fmap (unescaped (take (run others s) s) then◌) (rest_r quote r others (at + run others s) (drop (run others s) s))
    unfolding run
    run_rest at [] = sym (then_none _ ∙ ap (λ n. rest_r quote r others n []) (add-zero at))
    run_rest at (b ∷ s) = by (is others b) refl (run_rest (suc at) s)
      where
        by : (x : Bool) → is others b ≡ x → rest_r quote r others (suc at) s ≡ fmap (unescaped (take (run others s) s) then◌) (rest_r quote r others (suc at + run others s) (drop (run others s) s))
            → rest_r quote r others at (b ∷ s) ≡ fmap (unescaped (take (pick x (suc (run others s)) 0) (b ∷ s)) then◌) (rest_r quote r others (at + pick x (suc (run others s)) 0) (drop (pick x (suc (run others s)) 0) (b ∷ s)))
        by true e ih =
            let z : suc at + run others s ≡ at + suc (run others s) = omega arith in
            plain_turn at b s e
            ∙ (ap (fmap (unescaped (b ∷ []) then◌)) ih ∙ (then_join (unescaped (b ∷ [])) (unescaped (take (run others s) s)) (rest_r quote r others (suc at + run others s) (drop (run others s) s)) ∙ ap (λ n. fmap (unescaped (b ∷ take (run others s) s) then◌) (rest_r quote r others n (drop (run others s) s))) z))
        by false e ih = sym (then_none (rest_r quote r others (at + 0) (b ∷ s)) ∙ ap (λ n. rest_r quote r others n (b ∷ s)) (add-zero at))

    pub rest_run : (doc : List ℕ) (at : ℕ)
        → rest_r quote r others at (drop at doc) ≡ fmap (unescaped (slice at (run_end others doc at) doc) then◌) (rest_r quote r others (run_end others doc at) (drop (run_end others doc at) doc))
    rest_run doc at =
        run_rest at (drop at doc)
        ∙ (ap (λ v. fmap (unescaped v then◌) (rest_r quote r others (run_end others doc at) (drop (run others (drop at doc)) (drop at doc)))) (run_slice others doc at)
        ∙ ap (λ t. fmap (unescaped (slice at (run_end others doc at) doc) then◌) (rest_r quote r others (run_end others doc at) t)) (drop-drop (run others (drop at doc)) at doc))

  -- the quote
  pub rest_close : apart (only quote) (piece_s others).first ≡ true → quote < 256 → (doc : List ℕ) (at : ℕ) → quote ≡ peek doc at
      → rest_r quote r others at (drop at doc) ≡ ok (unescaped []) (at + 1) (drop (at + 1) doc)
  unfolding rest_r
  rest_close h l doc at e =
      let p : drop at doc ≡ quote ∷ drop (suc at) doc = peek_cons doc at quote e l in
      rw (p, apart_no (only quote) (piece_s others).first quote h (only_is quote), only_is quote, add-one) refl
