pub mod ProductLaws
pub mod RangeLaws
pub mod SameKinds
