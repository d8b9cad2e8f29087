-- What a buffer that holds a list of windows becomes.
pub mod Lists
