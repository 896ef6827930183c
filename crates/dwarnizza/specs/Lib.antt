pub mod Indexes
pub mod Keys
pub mod Md5State
