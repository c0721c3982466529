-- A LINE OF A BLOCK THAT ADDS BYTES, a hex line or one of joined strings, and the lines below it: what code promises of them. Assumes nothing.
use Rattle.std.specs.Prelude.{◌≡◌, List, ◌∷◌, ◌++◌, Bool, ℕ, zero, suc, ◌+◌, ◌≤◌, ◌<◌, length, drop}
use Rattle.std.proofs.Common.{sym, ap, subst, ◌∙◌, arith, length-append}
use Rattle.std.proofs.lemmas.List.Edits.{sets}
use Rattle.exact.specs.Class.{pick, is, only}
use Rattle.exact.specs.Out.{Out, Reader, bind, fmap, raise, Tame, ok, bad}
use Rattle.exact.specs.Answers.{raise_fmap, map_fmap}
use Rattle.exact.specs.Comb.{map_r}
use Rattle.exact.specs.Block.{many_g}
use Rattle.exact.specs.Lines.{reached}
use Rattle.exact.specs.Place.{peek}
use Rattle.language.specs.Tree.{Decoded, ◌then◌}
use Rattle.language.specs.BlockText.{Part, part, part_text, part_end}
use Rattle.rooms.specs.Told.{ESCAPE, spot, told, spot_on}
use Rattle.characters.specs.Reads.{Skip}
use Rattle.std.specs.declared.result.Result.TheVariants.{Err, Ok}
use Rattle.rooms.specs.declared.Cursor.{Cursor}
use Rattle.rooms.specs.Contract.{Ans}
use Rattle.rooms.specs.Contract.{Block}
use Rattle.rooms.specs.Stores.{sets_append}
use Rattle.blocktext.specs.Going.{many_raised}
use Rattle.blocktext.specs.Leaves.{Rowed, Furthers, went, stopped}

-- WHAT WAS PASSED OVER, AND AN LF: the cursor at it
unfoldable pub closes : List ℕ → Cursor → Skip → Ans
closes doc n (Ok e) = pick (is (only 10) (peek doc e)) (Ok (record { at = e; row = n.row; text = n.text })) (Err e)
closes doc n (Err p) = Err p

pub record Closed {X : Type 0} (doc : List ℕ) (at : ℕ) (o : Out X) (n m : Cursor) : Type 0 where
  pub value : X
  pub is : o ≡ ok value m.at (drop m.at doc)
  pub from : at ≤ m.at
  pub inside : m.at < length doc
  pub feed : peek doc m.at ≡ 10
  pub row : m.row ≡ n.row
  pub text : m.text ≡ n.text

pub data Unclosed {X : Type 0} (doc : List ℕ) (o : Out X) (p : ℕ) : Type 0 where
  no_end : o ≡ bad p → Unclosed doc o p
  no_close : (v : X) → o ≡ ok v p (drop p doc) → (peek doc p ≡ 10 → ⊥) → Unclosed doc o p

unfoldable pub Closing : {X : Type 0} → List ℕ → ℕ → Out X → Cursor → Ans → Type 0
Closing doc at o n (Ok m) = Closed doc at o n m
Closing doc at o n (Err p) = Unclosed doc o p

-- A LINE from the cursor c up to its LF at n, and its text, which stands in the room from c's text on
pub record Parted (doc : List ℕ) (c : Cursor) (o : Out Part) (n : Cursor) (text text' : List ℕ) : Type 0 where
  pub bytes : Decoded
  pub far : ℕ
  pub reads : o ≡ reached far (part bytes n.at) (n.at + 1) (drop (n.at + 1) doc)
  pub near : far ≤ n.at + 1
  pub ahead : c.at < n.at
  pub inside : n.at < length doc
  pub end : n.text ≡ c.text + told bytes
  pub few : c.at + length bytes.bytes ≤ n.at
  pub scant : c.at + bytes.escapes ≤ n.at
  pub room : text' ≡ sets text (spot c.text) bytes.bytes

unfoldable pub PartAt : List ℕ → Cursor → Out Part → Ans → List ℕ → List ℕ → Type 0
PartAt doc c o (Ok n) text text' = Parted doc c o n text text'
PartAt doc c o (Err p) text text' = o ≡ bad p

-- LINES BELOW: what the first was seen to begin raises nothing
module _ {X Y : Type 0} (g : List ℕ → Bool) (w : List ℕ → ℕ) (r : Reader X) (tame : Tame 1 r) where
  pub below_first : {U : Type 0} (f : U → List X → Y) (q : ℕ) (u : U) (a : ℕ) (t : List ℕ) → q ≤ a
      → bind (reached q u a t) (λ u. map_r (f u) (many_g g w r)) ≡ fmap (f u) (many_g g w r a t)
  below_first f zero u a t l = map_fmap (f u) (many_g g w r a t)
  below_first f (suc q) u a t l =
      ap (raise (suc q)) (map_fmap (f u) (many_g g w r a t))
      ∙ (raise_fmap (f u) (suc q) (many_g g w r a t) ∙ ap (fmap (f u)) (many_raised g w r tame (suc q) a t l))

-- ONE LINE AND THOSE BELOW IT
module _ (g : List ℕ → Bool) (w : List ℕ → ℕ) (r : Reader Part) (tame : Tame 1 r) where
  module _ (doc : List ℕ) (c : Cursor) (parent kind : ℕ) (o : Out Part) (from x q e : ℕ) (bs : Decoded) (b : Block) (R R' T₀ T T' : List ℕ) where
    -- the first line, and those below it
    first_read : o ≡ reached q (part bs e) (e + 1) (drop (e + 1) doc) → q ≤ e + 1
        → bind o (λ v. map_r (v ∷◌) (many_g g w r)) ≡ fmap (part bs e ∷◌) (many_g g w r (e + 1) (drop (e + 1) doc))
    first_read h l = ap (λ o. bind o (λ v. map_r (v ∷◌) (many_g g w r))) h ∙ below_first g w r tame (λ v vs. v ∷ vs) q (part bs e) (e + 1) (drop (e + 1) doc) l

    pub further_plus : o ≡ reached q (part bs e) (e + 1) (drop (e + 1) doc) → q ≤ e + 1 → T ≡ sets T₀ (spot x) bs.bytes → from + length bs.bytes ≤ e → from + bs.escapes ≤ e
        → spot x + length bs.bytes < ESCAPE → Furthers doc c parent kind (many_g g w r (e + 1) (drop (e + 1) doc)) (part_end e) part_text (e + 1) (x + told bs) b R R' T T'
        → Furthers doc c parent kind (bind o (λ v. map_r (v ∷◌) (many_g g w r))) (part_end 0) part_text from x b R R' T₀ T'
    further_plus h l s f k d (stopped p z y) = stopped p z (first_read h l ∙ ap (fmap (part bs e ∷◌)) y)
    further_plus h l s f k d (went y) =
        let u = part_text y.value in
        let n : length (bs.bytes ++ u.bytes) ≡ length bs.bytes + length u.bytes = length-append bs.bytes u.bytes in
        let i : x + told bs + told u ≡ x + told (bs then u) = omega arith in
        let j : spot (x + told bs) ≡ spot x + length bs.bytes = spot_on x (length bs.bytes) bs.escapes d in
        went
        (record {
          value = part bs e ∷ y.value;
          at = y.at;
          far = y.far;
          reads = first_read h l ∙ ap (fmap (part bs e ∷◌)) y.reads;
          room = y.room ∙ (ap (λ t. sets t (spot (x + told bs)) u.bytes) s ∙ (ap (λ m. sets (sets T₀ (spot x) bs.bytes) m u.bytes) j ∙ sym (sets_append T₀ (spot x) bs.bytes u.bytes)));
          row = subst (λ i. Rowed c parent kind y.at i y.far (part_end e y.value) b R R') i y.row;
          inside = y.inside;
          inner = y.inner;
          few = omega (arith, y.few);
          scant = omega (arith, y.scant);
          ahead = y.ahead;
        })
