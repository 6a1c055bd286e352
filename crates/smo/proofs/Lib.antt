pub mod Moments
pub mod Settling
pub mod PurgedLeaf
pub mod MadePages
pub mod SplitBranch
pub mod GrownRoot
