pub mod Hooks
pub mod Links
pub mod Named
pub mod Refusing
pub mod Orders
pub mod Charts
pub mod Dues
pub mod Linkings
