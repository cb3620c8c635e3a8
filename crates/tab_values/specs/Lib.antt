pub use Rattle.tab_fields.specs.Contexts
pub mod Stream
pub mod Taking
pub mod Views
