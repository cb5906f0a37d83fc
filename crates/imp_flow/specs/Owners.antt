-- The statements that points belong to.
pub use Rattle.cell_names.specs.Owners.{owner}
