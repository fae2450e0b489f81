pub mod Judgement
pub mod Places
