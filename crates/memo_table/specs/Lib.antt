pub mod Results
pub mod Recent
