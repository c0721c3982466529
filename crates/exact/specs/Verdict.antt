-- What an answer says of a language, and how answers for two languages make one for their union.
-- A `Tail W` is a language of what is left of a document, with values. An answer is a value, or the place up to which the text still begins a word of
-- the language (the text's end: END). Assumes nothing.
use Rattle.std.specs.Prelude.{◌≡◌, refl, List, [], ◌∷◌, ◌++◌, ◌⊎◌, ℕ, zero, suc, ◌+◌, ◌-◌, ◌≤◌, ◌<◌, max, min, length, take, drop}
use Rattle.std.proofs.Common.{sym, ap, subst, ◌∙◌, append_assoc, inl, inr, arith, length-take, take-append-drop, take-take, take_all}
use Rattle.std.proofs.Math.Decide.{dec_le}
pub use Rattle.notation.specs.Lang.{Tail, Begins}

pub data Res (W : Type 0) : Type 0 where
  acc : W → Res W
  stop : ℕ → Res W

abbrev pub Empty : {W : Type 0} → Tail W → Type 0
Empty {W} P = (t : List ℕ) (w : W) → P t w → ⊥

abbrev pub after : {W : Type 0} → ℕ → Tail W → Tail W
after b P t w = P (b ∷ t) w

abbrev pub either : {W : Type 0} → Tail W → Tail W → Tail W
either P Q t w = P t w ⊎ Q t w

-- p is the end of the longest prefix of s (which stands at `at`) that begins a word of P
pub record Far {W : Type 0} (P : Tail W) (at : ℕ) (s : List ℕ) (p : ℕ) : Type 0 where
  pub n : ℕ
  pub here : p ≡ at + n
  pub within : n ≤ length s
  pub viable : Begins P (take n s)
  pub dead : n < length s → Begins P (take (suc n) s) → ⊥

pub data Verdict {W : Type 0} (P : Tail W) (at : ℕ) (s : List ℕ) : Res W → Type 0 where
  takes : (w : W) → P s w → ((w' : W) → P s w' → w' ≡ w) → Verdict P at s (acc w)
  stops : (p : ℕ) → Far P at s p → ((w : W) → P s w → ⊥) → Verdict P at s (stop p)

-- a language that holds the same words has the same answer
pub same : {W : Type 0} {P Q : Tail W} {at : ℕ} {s : List ℕ} {f : Res W}
    → ((t : List ℕ) (w : W) → P t w → Q t w) → ((t : List ℕ) (w : W) → Q t w → P t w) → Verdict P at s f → Verdict Q at s f
same {s = s} to from (takes w x u) = takes w (to s w x) (λ w' q. u w' (from s w' q))
same {s = s} to from (stops p v z) =
    stops
    p
    (record {
      n = v.n;
      here = v.here;
      within = v.within;
      viable = record { more = v.viable.more; value = v.viable.value; word = to _ _ v.viable.word };
      dead = λ h b. v.dead h (record { more = b.more; value = b.value; word = from _ _ b.word });
    })
    (λ w q. z w (from s w q))

-- one byte on
pub step : {W : Type 0} {P : Tail W} {at b : ℕ} {s : List ℕ} {f : Res W} → Verdict (after b P) (suc at) s f → Verdict P at (b ∷ s) f
step (takes w x u) = takes w x u
step {at = at} {s = s} (stops p v z) =
    let e : p ≡ suc at + v.n = v.here in
    let l : v.n ≤ length s = v.within in
    stops
    p
    (record {
      n = suc v.n;
      here = omega arith;
      within = omega arith;
      viable = record { more = v.viable.more; value = v.viable.value; word = v.viable.word };
      dead = λ h b. v.dead (omega arith) (record { more = b.more; value = b.value; word = b.word });
    })
    z

-- the text is at its end, or its next byte begins nothing
pub at_end : {W : Type 0} {P : Tail W} (at : ℕ) → Begins P [] → ((w : W) → P [] w → ⊥) → Verdict P at [] (stop at)
at_end at b z = stops at (record { n = 0; here = omega arith; within = omega arith; viable = b; dead = λ h x. omega arith }) z

pub at_bad : {W : Type 0} {P : Tail W} (at b : ℕ) (s : List ℕ) → Begins P [] → Empty (after b P) → Verdict P at (b ∷ s) (stop at)
at_bad at b s x z =
    stops at (record { n = 0; here = omega arith; within = omega arith; viable = x; dead = λ h y. z y.more y.value y.word }) (λ w y. z s w y)

-- what begins a word begins one with less of it
pub less : {W : Type 0} {P : Tail W} (n m : ℕ) (s : List ℕ) → n ≤ m → Begins P (take m s) → Begins P (take n s)
less {P = P} n m s h b =
    let e : take m s ++ b.more ≡ take n s ++ (drop n (take m s) ++ b.more) =
    ap (λ (l : List ℕ). l ++ b.more) (sym (take-append-drop n (take m s)) ∙ ap (λ (l : List ℕ). l ++ drop n (take m s)) (take-take n m s h))
    ∙ append_assoc (take n s) (drop n (take m s)) b.more in
    record { more = drop n (take m s) ++ b.more; value = b.value; word = subst (λ (l : List ℕ). P l b.value) e b.word }

pub whole : {W : Type 0} {P : Tail W} (n : ℕ) (s : List ℕ) (w : W) → P s w → Begins P (take n s)
whole {P = P} n s w x = record { more = drop n s; value = w; word = rw take-append-drop x }

-- two languages
abbrev pub join : {W : Type 0} → Res W → Res W → Res W
join (acc w) g = acc w
join (stop p) (acc w) = acc w
join (stop p) (stop q) = stop (max p q)

left : {W : Type 0} {P : Tail W} (Q : Tail W) {u : List ℕ} → Begins P u → Begins (either P Q) u
left Q b = record { more = b.more; value = b.value; word = inl b.word }

right : {W : Type 0} (P : Tail W) {Q : Tail W} {u : List ℕ} → Begins Q u → Begins (either P Q) u
right P b = record { more = b.more; value = b.value; word = inr b.word }

split : {W : Type 0} {P Q : Tail W} {u : List ℕ} → Begins (either P Q) u → Begins P u ⊎ Begins Q u
split {P = P} {Q} {u} b = go b.more b.value b.word
  where
    go : (t : List ℕ) (w : _) → either P Q (u ++ t) w → Begins P u ⊎ Begins Q u
    go t w (inl x) = inl (record { more = t; value = w; word = x })
    go t w (inr x) = inr (record { more = t; value = w; word = x })

neither : {A B : Type 0} → (A → ⊥) → (B → ⊥) → A ⊎ B → ⊥
neither f g (inl x) = f x
neither f g (inr x) = g x

pub union : {W : Type 0} {P Q : Tail W} {at : ℕ} {s : List ℕ} {f g : Res W}
    → ((w w' : W) → P s w → Q s w' → w' ≡ w) → Verdict P at s f → Verdict Q at s g → Verdict (either P Q) at s (join f g)
union {W} {P} {Q} {s = s} e (takes w x u) q = takes w (inl x) one
  where
    one : (w' : W) → P s w' ⊎ Q s w' → w' ≡ w
    one w' (inl y) = u w' y
    one w' (inr y) = e w w' x y
union {W} {P} {Q} {s = s} e (stops p v z) (takes w x u) = takes w (inr x) one
  where
    one : (w' : W) → P s w' ⊎ Q s w' → w' ≡ w
    one w' (inl y) = absurd (z w' y)
    one w' (inr y) = u w' y
union {W} {P} {Q} {at} {s} e (stops p v z) (stops q y o) = stops (max p q) (pick (dec_le v.n y.n)) (λ w. neither (z w) (o w))
  where
    pick : Dec (v.n ≤ y.n) → Far (either P Q) at s (max p q)
    pick (yes h) =
        record {
          n = y.n;
          here = omega (arith, v.here, y.here);
          within = y.within;
          viable = right P y.viable;
          dead = λ l b. neither (λ c. v.dead (omega arith) (less (suc v.n) (suc y.n) s (omega arith) c)) (y.dead l) (split b);
        }
    pick (no h) =
        record {
          n = v.n;
          here = omega (arith, v.here, y.here);
          within = v.within;
          viable = left Q v.viable;
          dead = λ l b. neither (v.dead l) (λ c. y.dead (omega arith) (less (suc y.n) (suc v.n) s (omega arith) c)) (split b);
        }

-- Q dies early on s: within the first m bytes, while P begins with all but the last of them
pub early : {W : Type 0} {P Q : Tail W} {at : ℕ} {s : List ℕ} {f : Res W} (m : ℕ)
    → suc m ≤ length s → Begins P (take m s) → (Begins Q (take (suc m) s) → ⊥) → Verdict P at s f → Verdict (either P Q) at s f
early {W} {P} {Q} {s = s} m l b d (takes w x u) = takes w (inl x) one
  where
    one : (w' : W) → P s w' ⊎ Q s w' → w' ≡ w
    one w' (inl y) = u w' y
    one w' (inr y) = absurd (d (whole (suc m) s w' y))
early {W} {P} {Q} {at} {s} m l b d (stops p v z) = stops p far (λ w. neither (z w) (λ y. d (whole (suc m) s w y)))
  where
    high : Dec (m ≤ v.n) → m ≤ v.n
    high (yes h) = h
    high (no h) = absurd (v.dead (omega arith) (less (suc v.n) m s (omega arith) b))

    far : Far (either P Q) at s p
    far =
        let h : m ≤ v.n = high (dec_le m v.n) in
        record {
          n = v.n;
          here = v.here;
          within = v.within;
          viable = left Q v.viable;
          dead = λ k c. neither (v.dead k) (λ y. d (less (suc m) (suc v.n) s (omega arith) y)) (split c);
        }

pub early_end : {W : Type 0} {P Q : Tail W} {at : ℕ} {f : Res W} → ((w : W) → Q [] w → ⊥) → Verdict P at [] f → Verdict (either P Q) at [] f
early_end {W} {P} {Q} d (takes w x u) = takes w (inl x) one
  where
    one : (w' : W) → P [] w' ⊎ Q [] w' → w' ≡ w
    one w' (inl y) = u w' y
    one w' (inr y) = absurd (d w' y)
early_end {Q = Q} d (stops p v z) =
    stops
    p
    (record { n = v.n; here = v.here; within = v.within; viable = left Q v.viable; dead = λ k c. omega arith })
    (λ w. neither (z w) (d w))

-- each word of Q that begins with the next byte is one of P too: so a blank line after a block string is the string's, though the document may end in blank lines
pub absorbed : {W : Type 0} {P Q : Tail W} {at b : ℕ} {s : List ℕ} {f : Res W}
    → Begins P [] → ((t : List ℕ) (w : W) → Q (b ∷ t) w → P (b ∷ t) w) → Verdict P at (b ∷ s) f → Verdict (either P Q) at (b ∷ s) f
absorbed {W} {P} {Q} {b = b} {s = s} n g (takes w x u) = takes w (inl x) one
  where
    one : (w' : W) → P (b ∷ s) w' ⊎ Q (b ∷ s) w' → w' ≡ w
    one w' (inl y) = u w' y
    one w' (inr y) = u w' (g s w' y)
absorbed {W} {P} {Q} {at} {b} {s} n g (stops p v z) =
    stops
    p
    (record {
      n = v.n;
      here = v.here;
      within = v.within;
      viable = left Q v.viable;
      dead = λ k c. neither (v.dead k) (λ y. v.dead k (record { more = y.more; value = y.value; word = g _ _ y.word })) (split c);
    })
    (λ w. neither (z w) (λ y. z w (g s w y)))
