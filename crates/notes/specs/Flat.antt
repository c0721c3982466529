-- THE KEYS OF A TREE, as the log knows them. Assumes nothing.
pub use Rattle.named.specs.Flat.{Named, named, flats_append, flats_one, flat_node}
unfoldable pub use Rattle.named.specs.Flat.{flat, flats}
