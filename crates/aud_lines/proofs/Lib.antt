pub mod CommandLaws
pub mod CutLaws
pub mod FeedLaws
pub mod LineLaws
pub mod OutputLaws
pub mod RequestLaws
