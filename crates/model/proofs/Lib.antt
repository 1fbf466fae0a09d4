pub mod ReadExamples
pub mod StationExamples
pub mod AreaExamples
pub mod CallExamples
pub mod PendingExamples
pub mod TextExamples
