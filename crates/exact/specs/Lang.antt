-- Languages with values, readers, and what it means that a reader is exact. Assumes nothing.
use Rattle.std.specs.Prelude.{◌≡◌, refl, List, [], ◌∷◌, ◌++◌, ◌⊎◌, Bool, true, false, ℕ, zero, suc, ◌+◌, ◌-◌, ◌≤◌, ◌<◌, max, min, length, take, drop}
use Rattle.std.proofs.Common.{sym, ap, subst, ◌∙◌, append_assoc, inl, inr, arith}
pub use Rattle.notation.specs.Lang.{Lang, Then, Ret, ret, Byte, byte, End, end}
use Rattle.exact.specs.Verdict.{Tail, Res, Begins, Verdict, same, step, at_end, at_bad, acc, stop, takes}
use Rattle.exact.specs.Class.{pick, clash}
use Rattle.exact.specs.Out.{Reader, finish, Tamed, Tame, moves_none, moves_one, tamed_less, ok, bad, t_ok, t_bad}

-- WHAT MAY FOLLOW A LANGUAGE. Bars: what follows begins with no text of these. Eats: if what follows begins with such a byte, it is as well without it, so the
-- byte may be read as a part of the language before (the blank lines after a block string).
pub record Follow : Type 1 where
  pub bars : List ℕ → Type 0
  pub eats : ℕ → Bool

abbrev pub bar : (List ℕ → Type 0) → Follow
bar F = record { bars = F; eats = λ b. false }

abbrev pub None : Follow
None = bar (λ t. ⊥)

pub record Fits {X W : Type 0} (F : Follow) (K : X → ℕ → Tail W) : Type 0 where
  pub clear : (v : X) (at : ℕ) (t : List ℕ) (w : W) → K v at t w → F.bars t → ⊥
  pub gives : (v : X) (at b : ℕ) (t : List ℕ) (w : W) → K v at (b ∷ t) w → F.eats b ≡ true → K v (suc at) t w

pub fits_bar : {X W : Type 0} {F : List ℕ → Type 0} {K : X → ℕ → Tail W} → ((v : X) (at : ℕ) (t : List ℕ) (w : W) → K v at t w → F t → ⊥) → Fits (bar F) K
fits_bar c = record { clear = c; gives = λ v at b t w x e. absurd (clash e refl) }

-- EXACT: the reader r finds the language A, whose words are d bytes or more, before whatever F lets follow; and it is tame.
pub record Exact {X : Type 0} (d : ℕ) (A : Lang X) (F : Follow) (r : Reader X) : Type 1 where
  pub run :
      {W : Type 0} (K : X → ℕ → Tail W) (k : X → ℕ → List ℕ → Res W)
      → ((v : X) (at : ℕ) → Begins (K v at) [])
      → Fits F K
      → (at : ℕ) (s : List ℕ)
      → ((v : X) (at' : ℕ) (s' : List ℕ) → d + length s' ≤ length s → Verdict (K v at') at' s' (k v at' s'))
      → Verdict (Then A K at) at s (finish (r at s) k)
  pub some : {W : Type 0} (K : X → ℕ → Tail W) → ((v : X) (at : ℕ) → Begins (K v at) []) → (at : ℕ) → Begins (Then A K at) []
  pub moves : Tame d r

-- F' lets no more follow than F
pub record Within (F F' : Follow) : Type 0 where
  pub barred : (t : List ℕ) → F.bars t → F'.bars t
  pub eaten : (b : ℕ) → F.eats b ≡ true → F'.eats b ≡ true

pub within_bar : (F : List ℕ → Type 0) (F' : Follow) → ((t : List ℕ) → F t → F'.bars t) → Within (bar F) F'
within_bar F F' h = record { barred = h; eaten = λ b e. absurd (clash e refl) }

pub within_none : (F : Follow) → Within None F
within_none F = within_bar (λ t. ⊥) F (λ t x. absurd x)

pub within_same : (F : Follow) → Within F F
within_same F = record { barred = λ t x. x; eaten = λ b x. x }

-- less asked
pub weaken : {X : Type 0} {d : ℕ} {A : Lang X} {F : Follow} {r : Reader X} (d' : ℕ) (F' : Follow) → d' ≤ d → Within F F' → Exact d A F r → Exact d' A F' r
weaken d' F' l g e =
    record {
      run = λ K k ne fi at s h.
          e.run
          K
          k
          ne
          (record { clear = λ v a t w x y. fi.clear v a t w x (g.barred t y); gives = λ v a b t w x y. fi.gives v a b t w x (g.eaten b y) })
          at
          s
          (λ v a s' b. h v a s' (omega arith));
      some = e.some;
      moves = record { tame = λ at s. tamed_less d' l (e.moves.tame at s) };
    }

abbrev pub ret_r : {X : Type 0} → X → Reader X
ret_r v at s = ok v at s

pub ret_then : {X W : Type 0} {v : X} {at : ℕ} {s : List ℕ} {v' : X} {at' : ℕ} {s' : List ℕ} {w : W} (K : X → ℕ → Tail W)
    → Ret v at s v' at' s' → K v' at' s' w → K v at s w
ret_then K ret x = x

pub ret_exact : {X : Type 0} (v : X) → Exact 0 (Ret v) None (ret_r v)
ret_exact v =
    record {
      run = λ K k ne fi at s h.
          same
          (λ t w x. record { value = v; next = at; rest = t; first = ret; others = x })
          (λ t w x. ret_then K x.first x.others)
          (h v at s (omega arith));
      some = λ K ne at. record { more = (ne v at).more; value = (ne v at).value; word = record { value = v; next = at; rest = _; first = ret; others = (ne v at).word } };
      moves = record { tame = λ at s. t_ok (moves_none at s) };
    }

abbrev pub byte_r : (ℕ → Bool) → Reader ℕ
byte_r f at [] = bad at
byte_r f at (b ∷ s) = pick (f b) (ok b (suc at) s) (bad at)

byte_end : {f : ℕ → Bool} {at v at' : ℕ} {s' : List ℕ} → Byte f at [] v at' s' → ⊥
byte_end x = elim x [ ]

byte_is : {f : ℕ → Bool} {at b v at' : ℕ} {s s' : List ℕ} → Byte f at (b ∷ s) v at' s' → f b ≡ true
byte_is (byte e) = e

byte_then : {W : Type 0} {f : ℕ → Bool} {at b v at' : ℕ} {s s' : List ℕ} {w : W} (K : ℕ → ℕ → Tail W)
    → Byte f at (b ∷ s) v at' s' → K v at' s' w → K b (suc at) s w
byte_then K (byte e) x = x

pub byte_tame : (f : ℕ → Bool) → Tame 1 (byte_r f)
byte_tame f = record { tame = go }
  where
    by : (at b : ℕ) (s : List ℕ) (c : Bool) → Tamed 1 at (b ∷ s) (pick c (ok b (suc at) s) (bad at))
    by at b s true = t_ok (moves_one at b s)
    by at b s false = t_bad at (omega arith) (omega arith)

    go : (at : ℕ) (s : List ℕ) → Tamed 1 at s (byte_r f at s)
    go at [] = t_bad at (omega arith) (omega arith)
    go at (b ∷ s) = by at b s (f b)

module _ (f : ℕ → Bool) (b₀ : ℕ) (e₀ : f b₀ ≡ true) where
  byte_some : {W : Type 0} (K : ℕ → ℕ → Tail W) → ((v : ℕ) (at : ℕ) → Begins (K v at) []) → (at : ℕ) → Begins (Then (Byte f) K at) []
  byte_some K ne at =
      let n = ne b₀ (suc at) in
      record { more = b₀ ∷ n.more; value = n.value; word = record { value = b₀; next = suc at; rest = n.more; first = byte e₀; others = n.word } }

  pub byte_exact : Exact 1 (Byte f) None (byte_r f)
  byte_exact = record { run = λ K k ne fi at s h. go K k ne at s h; some = byte_some; moves = byte_tame f }
    where
      go : {W : Type 0} (K : ℕ → ℕ → Tail W) (k : ℕ → ℕ → List ℕ → Res W) (ne : (v : ℕ) (at : ℕ) → Begins (K v at) []) (at : ℕ) (s : List ℕ)
          → ((v : ℕ) (at' : ℕ) (s' : List ℕ) → 1 + length s' ≤ length s → Verdict (K v at') at' s' (k v at' s'))
          → Verdict (Then (Byte f) K at) at s (finish (byte_r f at s) k)
      go K k ne at [] h = at_end at (byte_some K ne at) (λ w x. byte_end x.first)
      go {W} K k ne at (b ∷ s) h = by (f b) refl
        where
          by : (c : Bool) → f b ≡ c → Verdict (Then (Byte f) K at) at (b ∷ s) (finish (pick c (ok b (suc at) s) (bad at)) k)
          by true e =
              step
              (same
              (λ t w x. record { value = b; next = suc at; rest = t; first = byte e; others = x })
              (λ t w x. byte_then K x.first x.others)
              (h b (suc at) s (omega arith)))
          by false e = at_bad at b s (byte_some K ne at) (λ t w x. clash (byte_is x.first) e)

abbrev pub end_r : {X : Type 0} → X → ℕ → List ℕ → Res X
end_r v at [] = acc v
end_r v at (b ∷ s) = stop at

pub end_verdict : {X : Type 0} (v : X) (at : ℕ) (s : List ℕ) → Verdict (End v at) at s (end_r v at s)
end_verdict {X} v at [] = takes v end only_one
  where
    only_one : (w : X) → End v at [] w → w ≡ v
    only_one w end = refl
end_verdict {X} v at (b ∷ s) = at_bad at b s (record { more = []; value = v; word = end }) (λ t w x. elim x [ ])

pub end_begins : {X : Type 0} (v : X) (at : ℕ) → Begins (End v at) []
end_begins v at = record { more = []; value = v; word = end }
