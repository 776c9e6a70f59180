pub mod Boxed
pub mod Jobs
pub mod Reports
pub mod Shown
pub mod Sides
pub mod Status
