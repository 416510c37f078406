mod Calls
mod ErrorOctet
mod Forms
mod InOrder
mod Places
mod Told
