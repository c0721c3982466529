-- A language that is told by a state after each byte: whether the bytes so far are a word (`full`), and whether they begin one (`live`).
-- For what no first byte decides: a number in `\u{..}` that must name a scalar value, a character's UTF-8, a keyword with what may follow.
-- Assumes nothing.
use Rattle.std.specs.Prelude.{◌≡◌, refl, List, [], ◌∷◌, ◌++◌, ◌⊎◌, Bool, true, false, ℕ, zero, suc, ◌+◌, ◌≤◌, ◌<◌, length, take}
use Rattle.std.proofs.Common.{sym, ap, subst, ◌∙◌, inl, inr, arith}
use Rattle.exact.specs.Verdict.{Tail, Res, Begins, either, Verdict, same, step, at_end, at_bad, early, early_end}
use Rattle.exact.specs.Class.{pick, clash, none}
use Rattle.exact.specs.Out.{Out, Reader, fmap, finish, finish_fmap, Tamed, Tame, moves_none, moves_one, tamed_trans, tamed_less, tamed_pick, tamed_fmap, Firm, firm_pick, firm_fmap, ok, bad, t_ok, t_bad, f_ok, f_bad}
use Rattle.exact.specs.Lang.{Then, bar, Exact}
use Rattle.exact.specs.Comb.{flip}
use Rattle.exact.specs.Ll.{need, need_le}

module _ {S : Type 0} (next : S → ℕ → S) (full live : S → Bool) where
  -- the words from a state; the value is the word, and `steps` of it the state at the end
  pub data Run : S → ℕ → List ℕ → List ℕ → ℕ → List ℕ → Type 0 where
    stay : {σ : S} {at : ℕ} {s : List ℕ} → full σ ≡ true → Run σ at s [] at s
    ahead : {σ : S} {at b : ℕ} {s w : List ℕ} {at' : ℕ} {t : List ℕ} → Run (next σ b) (suc at) s w at' t → Run σ at (b ∷ s) (b ∷ w) at' t

  abbrev pub steps : S → List ℕ → S
  steps σ [] = σ
  steps σ (b ∷ w) = steps (next σ b) w

  abbrev pub past : ℕ → List ℕ → ℕ
  past at [] = at
  past at (b ∷ w) = past (suc at) w

  pub run_of : (w : List ℕ) (σ : S) (at : ℕ) (t : List ℕ) → full (steps σ w) ≡ true → Run σ at (w ++ t) w (past at w) t
  run_of [] σ at t e = stay e
  run_of (b ∷ w) σ at t e = ahead (run_of w (next σ b) (suc at) t e)

  pub run_full : {σ : S} {at : ℕ} {s w : List ℕ} {at' : ℕ} {t : List ℕ} → Run σ at s w at' t → full (steps σ w) ≡ true
  run_full (stay e) = e
  run_full (ahead x) = run_full x

  -- as far as it lives
  abbrev pub run_l : List ℕ → S → ℕ → Out (List ℕ)
  run_l [] σ at = pick (full σ) (ok [] at []) (bad at)
  run_l (b ∷ s) σ at = pick (live (next σ b)) (fmap (b ∷◌) (run_l s (next σ b) (suc at))) (pick (full σ) (ok [] at (b ∷ s)) (bad at))

  abbrev pub run_r : S → Reader (List ℕ)
  run_r σ at s = run_l s σ at

  -- what lives has a word, and only that; what goes on after a word begins as G says
  pub record Laws (G : List ℕ → Type 0) : Type 0 where
    pub word : (σ : S) → live σ ≡ true → (w : List ℕ) × (full (steps σ w) ≡ true)
    pub full_lives : (σ : S) → full σ ≡ true → live σ ≡ true
    pub lives_back : (σ : S) (b : ℕ) → live (next σ b) ≡ true → live σ ≡ true
    pub greedy : (σ : S) (b : ℕ) (t : List ℕ) → full σ ≡ true → live (next σ b) ≡ true → G (b ∷ t)

  run_tame : (σ : S) → Tame (need (full σ)) (run_r σ)
  run_tame σ = record { tame = λ at s. go_on s σ at }
    where
      stuck : (at : ℕ) (s : List ℕ) (c : Bool) → Tamed {X = List ℕ} (need c) at s (pick c (ok [] at s) (bad at))
      stuck at s true = t_ok (moves_none at s)
      stuck at s false = t_bad at (omega arith) (omega arith)

      go_on : (s : List ℕ) (σ : S) (at : ℕ) → Tamed (need (full σ)) at s (run_l s σ at)
      go_on [] σ at = stuck at [] (full σ)
      go_on (b ∷ s) σ at =
          tamed_pick
          (live (next σ b))
          (tamed_less (need (full σ)) (omega (arith, need_le (full σ))) (tamed_trans (moves_one at b s) (tamed_fmap (b ∷◌) (go_on s (next σ b) (suc at)))))
          (stuck at (b ∷ s) (full σ))

  pub run_firm : (σ : S) (at : ℕ) (s : List ℕ) → Firm (run_r σ at s)
  run_firm σ at s = go_on s σ at
    where
      go_on : (s : List ℕ) (σ : S) (at : ℕ) → Firm (run_l s σ at)
      go_on [] σ at = firm_pick (full σ) f_ok f_bad
      go_on (b ∷ s) σ at = firm_pick (live (next σ b)) (firm_fmap (b ∷◌) (go_on s (next σ b) (suc at))) (firm_pick (full σ) f_ok f_bad)

  module _ {G : List ℕ → Type 0} (laws : Laws G) where
    pub lives : {σ : S} {at : ℕ} {s w : List ℕ} {at' : ℕ} {t : List ℕ} → Run σ at s w at' t → live σ ≡ true
    lives (stay {σ = σ} e) = laws.full_lives σ e
    lives (ahead {σ = σ} {b = b} x) = laws.lives_back σ b (lives x)

    module _ {W : Type 0} (K : List ℕ → ℕ → Tail W) (σ : S) (at : ℕ) where
      abbrev Ended : Tail W
      Ended t w = (full σ ≡ true) × K [] at t w

      data On : List ℕ → W → Type 0 where
        on : {b : ℕ} {t : List ℕ} {w : W} → Then (Run (next σ b)) (λ u. K (b ∷ u)) (suc at) t w → On (b ∷ t) w

      to : (t : List ℕ) (w : W) → either On Ended t w → Then (Run σ) K at t w
      to t w (inl (on {b = b} x)) = record { value = b ∷ x.value; next = x.next; rest = x.rest; first = ahead x.first; others = x.others }
      to t w (inr x) = record { value = []; next = at; rest = t; first = stay x.0; others = x.1 }

      un_on : {b : ℕ} {t : List ℕ} {w : W} → On (b ∷ t) w → Then (Run (next σ b)) (λ u. K (b ∷ u)) (suc at) t w
      un_on (on x) = x

    run_from : {W : Type 0} (K : List ℕ → ℕ → Tail W) (σ : S) (at : ℕ) (t : List ℕ) (w : W) {v : List ℕ} {a : ℕ} {u : List ℕ} → Run σ at t v a u → K v a u w
        → either (On K σ at) (Ended K σ at) t w
    run_from K σ at t w (stay e) y = inr (e, y)
    run_from K σ at t w (ahead {w = v} {at' = a} {t = u} z) y = inl (on (record { value = v; next = a; rest = u; first = z; others = y }))

    from : {W : Type 0} (K : List ℕ → ℕ → Tail W) (σ : S) (at : ℕ) (t : List ℕ) (w : W) → Then (Run σ) K at t w → either (On K σ at) (Ended K σ at) t w
    from K σ at t w x = run_from K σ at t w x.first x.others

    run_some : {W : Type 0} (σ : S) → live σ ≡ true → (K : List ℕ → ℕ → Tail W) → ((v : List ℕ) (at : ℕ) → Begins (K v at) []) → (at : ℕ) → Begins (Then (Run σ) K at) []
    run_some σ l K ne at =
        let x = laws.word σ l in
        let n = ne x.0 (past at x.0) in
        record {
          more = x.0 ++ n.more;
          value = n.value;
          word = record { value = x.0; next = past at x.0; rest = n.more; first = run_of x.0 σ at n.more x.1; others = n.word };
        }

    run_go : {W : Type 0} (K : List ℕ → ℕ → Tail W) (k : List ℕ → ℕ → List ℕ → Res W) → ((v : List ℕ) (at : ℕ) → Begins (K v at) [])
        → ((v : List ℕ) (at : ℕ) (t : List ℕ) (w : W) → K v at t w → G t → ⊥)
        → (s : List ℕ) (σ : S) → live σ ≡ true → (at : ℕ)
        → ((v : List ℕ) (at' : ℕ) (s' : List ℕ) → need (full σ) + length s' ≤ length s → Verdict (K v at') at' s' (k v at' s'))
        → Verdict (Then (Run σ) K at) at s (finish (run_l s σ at) k)
    run_go {W} K k ne cl [] σ l at h = by (full σ) refl
      where
        by : (c : Bool) → full σ ≡ c → Verdict (Then (Run σ) K at) at [] (finish (pick c (ok [] at []) (bad at)) k)
        by true e =
            same
            (λ t w x. to K σ at t w (flip (Ended K σ at) (On K σ at) t w x))
            (λ t w x. flip (On K σ at) (Ended K σ at) t w (from K σ at t w x))
            (early_end {P = Ended K σ at} {Q = On K σ at} (λ w x. elim x [ ]) (same (λ t w x. (e, x)) (λ t w x. x.1) (h [] at [] (rw e (omega arith)))))
        by false e = at_end at (run_some σ l K ne at) (λ w x. none w (from K σ at [] w x))
          where
            none : (w : W) → either (On K σ at) (Ended K σ at) [] w → ⊥
            none w (inl x6) = elim x6 [ ]
            none w (inr x) = clash x.0 e
    run_go {W} K k ne cl (b ∷ s) σ l at h =
        by
        (live (next σ b))
        refl
        (λ e.
        run_go
        (λ u. K (b ∷ u))
        (λ u. k (b ∷ u))
        (λ u. ne (b ∷ u))
        (λ u. cl (b ∷ u))
        s
        (next σ b)
        e
        (suc at)
        (λ v a s' m. h (b ∷ v) a s' (omega (arith, need_le (full σ)))))
      where
        stuck : (c : Bool) → full σ ≡ c → live (next σ b) ≡ false → Verdict (Then (Run σ) K at) at (b ∷ s) (finish (pick c (ok [] at (b ∷ s)) (bad at)) k)
        stuck true e d =
            same
            (λ t w x. to K σ at t w (flip (Ended K σ at) (On K σ at) t w x))
            (λ t w x. flip (On K σ at) (Ended K σ at) t w (from K σ at t w x))
            (early
            {P = Ended K σ at}
            {Q = On K σ at}
            0
            (omega arith)
            (let n = ne [] at in record { more = n.more; value = n.value; word = (e, n.word) })
            (λ x. clash (lives (un_on K σ at x.word).first) d)
            (same (λ t w x. (e, x)) (λ t w x. x.1) (h [] at (b ∷ s) (rw e (omega arith)))))
        stuck false e d = at_bad at b s (run_some σ l K ne at) (λ t w x. none t w (from K σ at (b ∷ t) w x))
          where
            none : (t : List ℕ) (w : W) → either (On K σ at) (Ended K σ at) (b ∷ t) w → ⊥
            none t w (inl x) = clash (lives (un_on K σ at x).first) d
            none t w (inr x) = clash x.0 e

        by : (c : Bool) → live (next σ b) ≡ c
            → (live (next σ b) ≡ true → Verdict (Then (Run (next σ b)) (λ u. K (b ∷ u)) (suc at)) (suc at) s (finish (run_l s (next σ b) (suc at)) (λ u. k (b ∷ u))))
            → Verdict (Then (Run σ) K at) at (b ∷ s) (finish (pick c (fmap (b ∷◌) (run_l s (next σ b) (suc at))) (pick (full σ) (ok [] at (b ∷ s)) (bad at))) k)
        by true e ih =
            rw finish_fmap
            (same
            (to K σ at)
            (from K σ at)
            (early
            {P = On K σ at}
            {Q = Ended K σ at}
            0
            (omega arith)
            (let n = run_some (next σ b) e (λ u. K (b ∷ u)) (λ u. ne (b ∷ u)) (suc at) in record { more = b ∷ n.more; value = n.value; word = on n.word })
            (λ x. cl [] at _ x.value x.word.1 (laws.greedy σ b x.more x.word.0 e))
            (step (same (λ t w x. on x) (λ t w x. un_on K σ at x) (ih e)))))
        by false e ih = stuck (full σ) refl e

    pub run_exact : (σ : S) → live σ ≡ true → Exact (need (full σ)) (Run σ) (bar G) (run_r σ)
    run_exact σ l = record { run = λ K k ne fi at s h. run_go K k ne fi.clear s σ l at h; some = run_some σ l; moves = run_tame σ }
