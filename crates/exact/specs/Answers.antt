-- LAWS OF ANSWERS: raised by how far something longer begins, followed by a reader, and with another value. Assumes nothing.
use Rattle.std.specs.Prelude.{◌≡◌, refl, List, [], ◌++◌, ℕ, max}
use Rattle.std.proofs.Common.{sym, ap, append_assoc, arith}
use Rattle.exact.specs.Out.{Out, ok, soft, bad, raise, bind, fmap, Reader}
use Rattle.exact.specs.Lang.{ret_r}

pub raise_raise : {X : Type 0} (p q : ℕ) (o : Out X) → raise (max p q) o ≡ raise p (raise q o)
raise_raise p q (ok v a t) = refl
raise_raise p q (soft s v a t) = ap (λ n. soft n v a t) (omega arith)
raise_raise p q (bad s) = ap bad (omega arith)

pub raise_bind : {X Y : Type 0} (p : ℕ) (o : Out X) (q : X → Reader Y) → bind (raise p o) q ≡ raise p (bind o q)
raise_bind p (ok v a t) q = refl
raise_bind p (soft s v a t) q = raise_raise p s (q v a t)
raise_bind p (bad s) q = refl

pub raise_fmap : {X Y : Type 0} (g : X → Y) (p : ℕ) (o : Out X) → raise p (fmap g o) ≡ fmap g (raise p o)
raise_fmap g p (ok v a t) = refl
raise_fmap g p (soft q v a t) = refl
raise_fmap g p (bad q) = refl

pub bind_bind : {X Y Z : Type 0} (o : Out X) (f : X → Reader Y) (g : Y → Reader Z) → bind (bind o f) g ≡ bind o (λ v a t. bind (f v a t) g)
bind_bind (ok v a t) f g = refl
bind_bind (soft p v a t) f g = raise_bind p (f v a t) g
bind_bind (bad p) f g = refl

pub bind_same : {X Y : Type 0} (o : Out X) (f g : X → Reader Y) → ((v : X) (a : ℕ) (t : List ℕ) → f v a t ≡ g v a t) → bind o f ≡ bind o g
bind_same (ok v a t) f g h = h v a t
bind_same (soft p v a t) f g h = ap (raise p) (h v a t)
bind_same (bad p) f g h = refl

-- a value that does not depend on what was read
pub bind_ret : {X Y Z : Type 0} (g : X → Y) (o : Out Z) (x : X) → bind o (λ _. ret_r (g x)) ≡ fmap g (bind o (λ _. ret_r x))
bind_ret g (ok v a t) x = refl
bind_ret g (soft p v a t) x = refl
bind_ret g (bad p) x = refl

pub map_fmap : {X Y : Type 0} (g : X → Y) (o : Out X) → bind o (λ v. ret_r (g v)) ≡ fmap g o
map_fmap g (ok v a t) = refl
map_fmap g (soft p v a t) = refl
map_fmap g (bad p) = refl

-- LISTS: what was read before stands in front
pub fmap_none : {X : Type 0} (o : Out (List X)) → fmap ([] ++◌) o ≡ o
fmap_none (ok v a t) = refl
fmap_none (soft p v a t) = refl
fmap_none (bad p) = refl

pub fmap_join : {X : Type 0} (u v : List X) (o : Out (List X)) → fmap (u ++◌) (fmap (v ++◌) o) ≡ fmap ((u ++ v) ++◌) o
fmap_join u v (ok w a t) = ap (λ x. ok x a t) (sym (append_assoc u v w))
fmap_join u v (soft p w a t) = ap (λ x. soft p x a t) (sym (append_assoc u v w))
fmap_join u v (bad p) = refl
