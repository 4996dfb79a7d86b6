pub use Rattle.co_dict.specs.Rows
pub use Rattle.co_dict.specs.Stores
