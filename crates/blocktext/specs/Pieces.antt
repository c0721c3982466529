-- THE TEXT OF A LINE: pieces, at least one. They are the bytes that stand there, and no LF is among them.
use Rattle.std.specs.Prelude.{◌≡◌, refl, List, [], ◌∷◌, ◌++◌, ◌⊎◌, Bool, true, false, ℕ, zero, suc, ◌+◌, ◌-◌, ◌/◌, ◌%◌, ◌≤◌, ◌<◌, length, get_or, drop, take, leb}
use Rattle.std.proofs.Common.{sym, ap, subst, ◌∙◌, append_assoc, inl, inr, arith, length-append, get_or-drop}
use Rattle.std.proofs.Math.ListN.{get_or-append}
use Rattle.std.proofs.Math.Seq.{slice, take-append_seam}
use Rattle.notation.specs.Lang.{Lang, ◌>>=◌, ◌>>◌, Star, nil, cons, Plus, Byte, byte, Ret, ret, Map, cat}
use Rattle.language.specs.Characters.{Char, char, utf8, character, wide, dark, Space, Feed, Piece}
use Rattle.exact.specs.Class.{pick, clash, is, only, only_eq, nothing, ◌to◌, or_of, range_of, within}
use Rattle.exact.specs.Out.{Out, Reader, raise, bind, fmap, Tame, Tamed, shrinks, forward, placed, ok, soft, bad, t_ok, t_soft}
use Rattle.exact.specs.Lang.{None, within_bar, weaken, ret_r, byte_r}
use Rattle.exact.specs.Answers.{map_fmap}
use Rattle.exact.specs.Comb.{seq_r, map_r, star_r, many_r}
use Rattle.exact.specs.Ll.{Ll, ret_ll, seq_ll, star_ll, relax, byte₁}
use Rattle.exact.specs.More.{ll_shuts}
use Rattle.exact.specs.Place.{peek, peek_cons, slice_at}
use Rattle.exact.specs.Sound.{word_read}
use Rattle.characters.specs.Comments.{piece_r, piece_s, piece_ll, pieces_r}
use Rattle.blocktext.specs.Plus.{plus_r}

abbrev pub solid_r : Reader (List ℕ)
solid_r = map_r cat (plus_r piece_r (many_r (is piece_s.first) piece_r))

-- FUEL: as many turns as there are bytes are enough
module _ {X : Type 0} (f : ℕ → Bool) (r : Reader X) (tame : Tame 1 r) where
  star_fuel : (n m at : ℕ) (s : List ℕ) → length s ≤ n → length s ≤ m → star_r f r n at s ≡ star_r f r m at s
  star_fuel zero zero at s h k = refl
  star_fuel zero (suc m) at [] h k = refl
  star_fuel zero (suc m) at (b ∷ s) h k = absurd (omega arith)
  star_fuel (suc n) zero at [] h k = refl
  star_fuel (suc n) zero at (b ∷ s) h k = absurd (omega arith)
  star_fuel (suc n) (suc m) at [] h k = refl
  star_fuel (suc n) (suc m) at (b ∷ s) h k = ap (λ o. pick (f b) o (ok [] at (b ∷ s))) (by (r at (b ∷ s)) (tame.tame at (b ∷ s)) (star_fuel n m))
    where
      by : (o : Out X) → Tamed 1 at (b ∷ s) o → ((a : ℕ) (t : List ℕ) → length t ≤ n → length t ≤ m → star_r f r n a t ≡ star_r f r m a t)
          → bind o (λ v a t. fmap (v ∷◌) (star_r f r n a t)) ≡ bind o (λ v a t. fmap (v ∷◌) (star_r f r m a t))
      by (ok v a t) (t_ok x) ih = ap (fmap (v ∷◌)) (ih a t (omega (arith, shrinks x)) (omega (arith, shrinks x)))
      by (soft p v a t) (t_soft _ x l) ih = ap (λ o. raise p (fmap (v ∷◌) o)) (ih a t (omega (arith, shrinks x)) (omega (arith, shrinks x)))
      by (bad p) x ih = refl

-- ONE OR MORE are as many as there are, where one begins
piece_tame : Tame 1 piece_r
piece_tame = piece_ll.exact.moves

begun : (at b : ℕ) (s : List ℕ) → is piece_s.first b ≡ true → pieces_r at (b ∷ s) ≡ solid_r at (b ∷ s)
begun at b s e = rw e (ap (λ o. bind o (λ ps. ret_r (cat ps))) (by (piece_r at (b ∷ s)) (piece_tame.tame at (b ∷ s))))
  where
    f : ℕ → Bool
    f = is piece_s.first

    by : (o : Out (List ℕ)) → Tamed 1 at (b ∷ s) o
        → bind o (λ v a t. fmap (v ∷◌) (star_r f piece_r (length s) a t)) ≡ bind o (λ v a t. bind (star_r f piece_r (length t) a t) (λ vs. ret_r (v ∷ vs)))
    by (ok v a t) (t_ok x) =
        ap (fmap (v ∷◌)) (star_fuel f piece_r piece_tame (length s) (length t) a t (omega (arith, shrinks x)) (omega arith)) ∙ sym (map_fmap (v ∷◌) (star_r f piece_r (length t) a t))
    by (soft p v a t) (t_soft _ x l) =
        ap
        (raise p)
        (ap (fmap (v ∷◌)) (star_fuel f piece_r piece_tame (length s) (length t) a t (omega (arith, shrinks x)) (omega arith))
        ∙ sym (map_fmap (v ∷◌) (star_r f piece_r (length t) a t)))
    by (bad p) x = refl

-- THE ANSWER for one or more, by that for as many as there are
solid_ll : Ll (record { null = false; first = piece_s.first; follow = piece_s.first }) (Map cat (Plus Piece)) solid_r
solid_ll =
    relax
    (record { null = false; first = piece_s.first; follow = piece_s.first })
    refl
    refl
    refl
    (seq_ll refl (seq_ll refl piece_ll λ v. seq_ll refl (star_ll refl refl piece_ll) λ vs. ret_ll (v ∷ vs)) λ ps. ret_ll (cat ps))

-- where none begins there is none, and one or more are refused at once
pub data Pieces (at : ℕ) (s : List ℕ) : Type 0 where
  no_piece : pieces_r at s ≡ ok [] at s → solid_r at s ≡ bad at → Pieces at s
  a_piece : pieces_r at s ≡ solid_r at s → Pieces at s

pub pieces : (at : ℕ) (s : List ℕ) → Pieces at s
pieces at [] = no_piece refl (ap (λ o. bind (bind o (λ v. map_r (v ∷◌) (many_r (is piece_s.first) piece_r))) (λ ps. ret_r (cat ps))) ((ll_shuts refl piece_ll).at_none at))
pieces at (b ∷ s) = by (is piece_s.first b) refl
  where
    by : (x : Bool) → is piece_s.first b ≡ x → Pieces at (b ∷ s)
    by true e = a_piece (begun at b s e)
    by false e =
        no_piece
        (rw e refl)
        (ap (λ o. bind (bind o (λ v. map_r (v ∷◌) (many_r (is piece_s.first) piece_r))) (λ ps. ret_r (cat ps))) ((ll_shuts refl piece_ll).not at b s e))

module _ (at : ℕ) (s v : List ℕ) (n : ℕ) (t : List ℕ) (h : pieces_r at s ≡ ok v n t) where
  place_of : {a b : ℕ} {u w x y : List ℕ} → ok u a x ≡ ok w b y → a ≡ b
  place_of e = cc

  pub solid_none : n ≡ at → solid_r at s ≡ bad at
  solid_none e = by (pieces at s)
    where
      stuck : Tamed 1 at s (ok v n t) → solid_r at s ≡ bad at
      stuck (t_ok m) = absurd (omega (arith, forward m))

      by : Pieces at s → solid_r at s ≡ bad at
      by (no_piece x y) = y
      by (a_piece x) = stuck (subst (λ o. Tamed 1 at s o) (sym x ∙ h) (solid_ll.exact.moves.tame at s))

  pub solid_some : (n ≡ at → ⊥) → solid_r at s ≡ ok v n t
  solid_some d = by (pieces at s)
    where
      by : Pieces at s → solid_r at s ≡ ok v n t
      by (no_piece x y) = absurd (d (place_of (sym h ∙ x)))
      by (a_piece x) = sym x ∙ h

pub solid_bad : (at : ℕ) (s : List ℕ) (p : ℕ) → pieces_r at s ≡ bad p → solid_r at s ≡ bad p
solid_bad at s p h = by (pieces at s)
  where
    apart : {v x : List ℕ} {a : ℕ} → bad p ≡ ok v a x → ⊥
    apart e = let z : ◌≡◌ {A = ℕ} 0 1 = cc in omega arith

    by : Pieces at s → solid_r at s ≡ bad p
    by (no_piece x y) = absurd (apart (sym h ∙ x))
    by (a_piece x) = sym x ∙ h

-- WITH NO LF among them
abbrev pub Dry : List ℕ → Type 0
Dry [] = Unit {0}
Dry (b ∷ v) = (b ≡ 10 → ⊥) × Dry v

dry_append : (u v : List ℕ) → Dry u → Dry v → Dry (u ++ v)
dry_append [] v x y = y
dry_append (b ∷ u) v x y = (x.0, dry_append u v x.1 y)

pub dry_at : (v : List ℕ) (i : ℕ) → Dry v → i < length v → get_or v i 256 ≡ 10 → ⊥
dry_at [] i x l e = omega arith
dry_at (b ∷ v) zero x l e = x.0 e
dry_at (b ∷ v) (suc i) x l e = dry_at v i x.1 (omega arith) e

dry_utf8 : (x : ℕ) → character dark x ≡ true → Dry (utf8 x)
dry_utf8 x e = one (leb x 127) refl e
  where
    low : (within (33 to 126) x ≡ true) ⊎ (false ≡ true) → x ≡ 10 → ⊥
    low (inl y) z = let r = range_of 33 126 x y in omega arith
    low (inr y) z = clash y refl

    three : (y : Bool) → Dry (pick y ((224 + x / 4096) ∷ (128 + x / 64 % 64) ∷ (128 + x % 64) ∷ []) ((240 + x / 262144) ∷ (128 + x / 4096 % 64) ∷ (128 + x / 64 % 64) ∷ (128 + x % 64) ∷ []))
    three true = ((λ z. omega arith), ((λ z. omega arith), ((λ z. omega arith), tt)))
    three false = ((λ z. omega arith), ((λ z. omega arith), ((λ z. omega arith), ((λ z. omega arith), tt))))

    two : (y : Bool)
        → Dry (pick y ((192 + x / 64) ∷ (128 + x % 64) ∷ []) (pick (leb x 65535) ((224 + x / 4096) ∷ (128 + x / 64 % 64) ∷ (128 + x % 64) ∷ []) ((240 + x / 262144) ∷ (128 + x / 4096 % 64) ∷ (128 + x / 64 % 64) ∷ (128 + x % 64) ∷ [])))
    two true = ((λ z. omega arith), ((λ z. omega arith), tt))
    two false = three (leb x 65535)

    one : (y : Bool) → leb x 127 ≡ y → pick y (is dark x) (wide x) ≡ true
        → Dry (pick y (x ∷ []) (pick (leb x 2047) ((192 + x / 64) ∷ (128 + x % 64) ∷ []) (pick (leb x 65535) ((224 + x / 4096) ∷ (128 + x / 64 % 64) ∷ (128 + x % 64) ∷ []) ((240 + x / 262144) ∷ (128 + x / 4096 % 64) ∷ (128 + x / 64 % 64) ∷ (128 + x % 64) ∷ []))))
    one true h k = (low (or_of (within (33 to 126) x) false k), tt)
    one false h k = two (leb x 2047)

-- THE BYTES THAT STAND THERE
record Stands (s v t : List ℕ) : Type 0 where
  whole : s ≡ v ++ t
  dry : Dry v

stands_then : {s v t w u : List ℕ} → Stands s v t → Stands t w u → Stands s (v ++ w) u
stands_then {v = v} {w = w} {u} x y =
    record { whole = x.whole ∙ (ap (v ++◌) y.whole ∙ sym (append_assoc v w u)); dry = dry_append v w x.dry y.dry }

stands_none : (s : List ℕ) → Stands s [] s
stands_none s = record { whole = refl; dry = tt }

char_stands : {at : ℕ} {s v : List ℕ} {a : ℕ} {t : List ℕ} → Char dark at s v a t → Stands s v t
char_stands (char x e) = record { whole = refl; dry = dry_utf8 x e }

space_stands : {at : ℕ} {s ss : List ℕ} {a : ℕ} {t : List ℕ} → Star Space at s ss a t → Stands s ss t
space_stands {s = s} nil = stands_none s
space_stands (cons (byte {b = b} e) x) =
    let y = space_stands x in
    record { whole = ap (b ∷◌) y.whole; dry = ((λ z. let k = only_eq 32 b e in omega arith), y.dry) }

piece_stands : {at : ℕ} {s v : List ℕ} {a : ℕ} {t : List ℕ} → Piece at s v a t → Stands s v t
piece_stands {s = s} {t = t} x = go x.second.second (stands_then (space_stands x.first) (char_stands x.second.first))
  where
    go : {w u v : List ℕ} {a a' : ℕ} {t : List ℕ} → Ret w a u v a' t → Stands s w u → Stands s v t
    go ret y = y

pieces_stand : {at : ℕ} {s : List ℕ} {ps : List (List ℕ)} {a : ℕ} {t : List ℕ} → Star Piece at s ps a t → Stands s (cat ps) t
pieces_stand {s = s} nil = stands_none s
pieces_stand (cons x y) = stands_then (piece_stands x) (pieces_stand y)

-- behind them an LF
abbrev Closed : Lang (List ℕ)
Closed = do v ← Map cat (Plus Piece); Feed; Ret v

closed_r : Reader (List ℕ)
closed_r = seq_r solid_r λ v. seq_r (byte_r (is (only 10))) λ _. ret_r v

closed_ll : Ll (record { null = false; first = piece_s.first; follow = [] }) Closed closed_r
unfolding closed_r
closed_ll = relax (record { null = false; first = piece_s.first; follow = [] }) refl refl refl (seq_ll refl solid_ll λ v. seq_ll refl (byte₁ 10) λ _. ret_ll v)

closed_stands : {at : ℕ} {s v : List ℕ} {a : ℕ} {t : List ℕ} → Closed at s v a t → Stands s v (10 ∷ t)
closed_stands {s = s} x = go x.first.first.second.second x.first.second x.second.first x.second.second (stands_then (piece_stands x.first.first.first) (pieces_stand x.first.first.second.first))
  where
    go : {p : List ℕ} {ps : List (List ℕ)} {qs : List (List ℕ)} {a₁ a₂ a₃ b a₄ a₅ : ℕ} {s₁ s₂ w s₃ v s₄ t : List ℕ} → Ret (p ∷ ps) a₁ s₁ qs a₂ s₂ → Ret (cat qs) a₂ s₂ w a₃ s₃
        → Byte (is (only 10)) a₃ s₃ b a₄ s₄ → Ret w a₄ s₄ v a₅ t → Stands s (p ++ cat ps) s₁ → Stands s v (10 ∷ t)
    go {p} {ps} ret ret (byte {b = b} {s = u} e) ret y = record { whole = y.whole ∙ ap (λ c. (p ++ cat ps) ++ c ∷ u) (only_eq 10 b e); dry = y.dry }

module _ (doc : List ℕ) (at : ℕ) (v : List ℕ) (n : ℕ) (h : solid_r at (drop at doc) ≡ ok v n (drop n doc)) (e : peek doc n ≡ 10) where
  closed : Stands (drop at doc) v (10 ∷ drop (suc n) doc)
  closed =
      closed_stands
      (word_read
      (weaken 1 None (omega arith) (within_bar _ None nothing) closed_ll.exact)
      at
      (drop at doc)
      v
      (suc n)
      (drop (suc n) doc)
      (unfold closed_r in (rw (h, peek_cons doc n 10 (sym e) (omega arith)) refl)))

  solid_place : n ≡ at + length v
  solid_place = go (subst (λ o. Tamed 1 at (drop at doc) o) h (solid_ll.exact.moves.tame at (drop at doc)))
    where
      go : Tamed 1 at (drop at doc) (ok v n (drop n doc)) → n ≡ at + length v
      go (t_ok m) =
          let p = placed m in
          let q : length (drop at doc) ≡ length v + suc (length (drop (suc n) doc)) = ap length closed.whole ∙ length-append v (10 ∷ drop (suc n) doc) in
          let r : length (drop n doc) ≡ suc (length (drop (suc n) doc)) = ap length (peek_cons doc n 10 (sym e) (omega arith)) in
          omega arith

  pub solid_text : v ≡ slice at n doc
  solid_text =
      sym (take-append_seam v (10 ∷ drop (suc n) doc))
      ∙ (ap (take (length v)) (sym closed.whole) ∙ (slice_at at (length v) doc ∙ ap (λ k. slice at k doc) (sym solid_place)))

  pub solid_dry : (j : ℕ) → at ≤ j → j < n → peek doc j ≡ 10 → ⊥
  solid_dry j l k z =
      let p = solid_place in
      let q : at + (j - at) ≡ j = omega arith in
      let i : get_or v (j - at) 256 ≡ peek doc j =
      sym (get_or-append v (10 ∷ drop (suc n) doc) 256 (j - at) (omega arith))
      ∙ (ap (λ u. get_or u (j - at) 256) (sym closed.whole) ∙ (get_or-drop at doc (j - at) 256 ∙ ap (λ m. get_or doc m 256) q)) in
      dry_at v (j - at) closed.dry (omega arith) (i ∙ z)

  pub solid_ahead : at < n
  solid_ahead = go (subst (λ o. Tamed 1 at (drop at doc) o) h (solid_ll.exact.moves.tame at (drop at doc)))
    where
      go : Tamed 1 at (drop at doc) (ok v n (drop n doc)) → at < n
      go (t_ok m) = omega (arith, forward m)
